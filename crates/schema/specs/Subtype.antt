-- Which types are subtypes of which (sections 3.6 and 5.8.5).
use Rattle.std.specs.Prelude.{◌≡◌, ℕ, List, Bool, true, false, ◌&&◌, ◌||◌, Option, find}
use Rattle.std.specs.Option.{option_map_or}
use Rattle.std.specs.Str.{bytes_eq}
use Rattle.language_types.specs.declared.types.TypeModifier.TheVariants as m
use Rattle.language_types.specs.Types.{TypeShape, nullable_named, wrapped_by, list_of, IsNonNull}
use Rattle.meta.specs.declared.kinds.MetaTypeOf.{MetaTypeOf}
use Rattle.schema_validation.specs.Accepted.{is_named, is_listed}
use Rattle.meta.specs.Kinds.{is_abstract_meta}
use Rattle.schema.specs.Possible.{is_among, possible_names}

module _ {S C : Type 0} (ts : List (MetaTypeOf S C)) where
  -- the first name is that of an interface or a union, of which the other is a possible type
  abbrev pub may_be : List ℕ → List ℕ → Bool
  may_be super sub = option_map_or (λ t. is_abstract_meta t && is_among (possible_names ts t) sub) (find (is_named super) ts) false

  -- one name, or both are known and the first is a possible type of the second
  abbrev pub is_name_below : List ℕ → List ℕ → Bool
  is_name_below sub super = bytes_eq sub super || (is_listed ts sub && may_be super sub)

-- The first type is a subtype of the second, or below it for short: the least relation that is closed under these
-- rules.
pub data IsSubtype {S C : Type 0} (ts : List (MetaTypeOf S C)) : TypeShape → TypeShape → Type 0 where
  -- a type below itself
  equal : (t : TypeShape) → IsSubtype ts t t
  -- a plain name below one of which it is a possible type
  names : (a b : List ℕ) → is_name_below ts a b ≡ true → IsSubtype ts (nullable_named a) (nullable_named b)
  -- a non-null below a non-null, if the inner types are
  both_non_null : (t u : TypeShape) → IsSubtype ts t u → IsSubtype ts (wrapped_by m.NonNull t) (wrapped_by m.NonNull u)
  -- a list below a list of any size, if the types of the items are
  both_lists : (i j : Option ℕ) (t u : TypeShape) → IsSubtype ts t u → IsSubtype ts (list_of i t) (list_of j u)
  -- a non-null below a type that is not non-null, if the inner type is
  non_null : (t u : TypeShape) → ¬ (IsNonNull u) → IsSubtype ts t u → IsSubtype ts (wrapped_by m.NonNull t) u
