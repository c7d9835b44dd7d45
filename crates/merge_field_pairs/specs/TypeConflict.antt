-- Whether two types can't stand in one place of a response (section 5.3.2).
use Rattle.std.specs.Prelude.{ℕ, List, [], ◌∷◌, reverse, Bool, true, false, not, ◌&&◌, ◌||◌, nat_eq, Option, Some, None}
use Rattle.std.specs.Prelude.{if◌then◌else◌}
use Rattle.std.specs.Option.{option_map_or, option_eq}
use Rattle.std.specs.Str.{bytes_eq}
use Rattle.language_types.specs.Types.{TypeShape, outermost, inner_of}
use Rattle.language_types.specs.declared.types.TypeModifier.{TypeModifier}
use Rattle.language_types.specs.declared.types.TypeModifier.TheVariants as m
use Rattle.meta.specs.Kinds.{is_leaf_meta}
use Rattle.schema.specs.Catalog.{Catalog, type_in}
use Rattle.merge_field_pairs.specs.declared.type_conflict.Settled.{Settled}
use Rattle.merge_field_pairs.specs.declared.type_conflict.Settled.TheVariants as s

-- By the modifiers, the outermost first, and by whether the plain names conflict: two non-nulls and two lists of one
-- size go by what is in them, lists of different sizes have no conflict, and any others have one.
abbrev pub do_layers_conflict : Bool → List TypeModifier → List TypeModifier → Bool
do_layers_conflict names [] [] = names
do_layers_conflict names (m.NonNull ∷ ms) (m.NonNull ∷ ns) = do_layers_conflict names ms ns
do_layers_conflict names (m.List j ∷ ms) (m.List k ∷ ns) = option_eq nat_eq j k && do_layers_conflict names ms ns
do_layers_conflict names _ _ = true

-- By the outermost modifiers of both: two non-nulls go by the inner types, two lists of equal expected size too, two
-- lists of different sizes have no conflict, two plain names go by the names, and any others have a conflict.
abbrev pub settled_of : Option TypeModifier → Option TypeModifier → Settled
settled_of (Some m.NonNull) (Some m.NonNull) = s.Inside
settled_of (Some (m.List j)) (Some (m.List k)) = if option_eq nat_eq j k then s.Inside else s.Agreeing
settled_of None None = s.ByNames
settled_of _ _ = s.Conflicting

-- the conflict of the plain names and that of the inner types
abbrev pub by_settled : Bool → Bool → Settled → Bool
by_settled names inner s.Inside = inner
by_settled names inner s.ByNames = names
by_settled names inner s.Agreeing = false
by_settled names inner s.Conflicting = true

module _ {S C : Type 0} (schema : Catalog S C) where
  -- a scalar or an enum of the schema has the name
  abbrev pub is_leaf_named : List ℕ → Bool
  is_leaf_named name = option_map_or is_leaf_meta (type_in name schema) false

  -- one of them is a leaf, and they differ
  abbrev pub do_names_conflict : List ℕ → List ℕ → Bool
  do_names_conflict l r = (is_leaf_named l || is_leaf_named r) && not (bytes_eq l r)

  -- whether two types conflict: by their modifiers, outermost first, and then by their names
  abbrev pub do_types_conflict : TypeShape → TypeShape → Bool
  do_types_conflict t u = do_layers_conflict (do_names_conflict t.name u.name) (reverse t.modifiers) (reverse u.modifiers)

  -- by the outermost modifiers, in the words of the rule
  abbrev pub conflict_by_outermost : TypeShape → TypeShape → Bool
  conflict_by_outermost t u =
      by_settled (do_names_conflict t.name u.name) (do_types_conflict (inner_of t) (inner_of u))
      (settled_of (outermost t.modifiers) (outermost u.modifiers))
