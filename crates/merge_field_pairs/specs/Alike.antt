-- Fields that are plainly alike (section 5.3.2).
use Rattle.std.specs.Prelude.{◌≡◌, ℕ, List, Bool, true, Option, Some, None, option_map, slice_get}
use Rattle.language_types.specs.Types.{TypeShape, shape}
use Rattle.meta.specs.declared.fields.Field as metadata
use Rattle.merge_field_pairs.specs.Entries.{PlainEntry}
use Rattle.merge_field_pairs.specs.SameArguments.{same_arguments}

-- the type, where it is known
abbrev pub known_type : {S : Type 0} → Option (metadata.Field S) → Option TypeShape
known_type metadata = option_map (λ f. shape f.field_type) metadata

module _ {S C : Type 0} (E : S → S → Bool) where
  -- The first field is given the same arguments as the second.
  abbrev pub IsGivenTheSame : PlainEntry S C → PlainEntry S C → Type 0
  IsGivenTheSame a b = same_arguments E a.field.item.arguments b.field.item.arguments ≡ true

  -- One name, the same arguments whichever field is looked at first, and one type, or both an unknown type.
  pub record AreAlike (a b : PlainEntry S C) : Type 0 where
    pub name : a.field.item.name.item.now ≡ b.field.item.name.item.now
    pub forth : IsGivenTheSame a b
    pub back : IsGivenTheSame b a
    pub typed : known_type a.metadata ≡ known_type b.metadata

  -- where one of them is no field, they are not alike
  abbrev pub AreAlikeBetween : Option (PlainEntry S C) → Option (PlainEntry S C) → Type 0
  AreAlikeBetween (Some a) (Some b) = AreAlike a b
  AreAlikeBetween (Some a) None = ⊥
  AreAlikeBetween None (Some b) = ⊥
  AreAlikeBetween None None = ⊥

  abbrev pub AreAlikeAt : List (PlainEntry S C) → ℕ → ℕ → Type 0
  AreAlikeAt fields i j = AreAlikeBetween (slice_get fields i) (slice_get fields j)
