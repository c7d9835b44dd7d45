-- Fields of one kind: nothing that is asked of two fields tells them apart (section 5.3.2).
use Rattle.std.specs.Prelude.{◌≡◌, ℕ, List, Bool, Option, Some, None, option_and_then, slice_get}
use Rattle.merge_field_pairs.specs.Alike.{AreAlike}
use Rattle.merge_field_pairs.specs.Entries.{PlainEntry, object_name}

module _ {S C : Type 0} (E : S → S → Bool) where
  -- The types around them are one object type, by its name, or neither is an object type.
  pub record IsKin (a b : PlainEntry S C) : Type 0 where
    pub alike : AreAlike E a b
    pub parents : option_and_then object_name a.parent ≡ option_and_then object_name b.parent

  -- where one of them is no field, they are not of one kind
  abbrev pub IsKinBetween : Option (PlainEntry S C) → Option (PlainEntry S C) → Type 0
  IsKinBetween (Some a) (Some b) = IsKin a b
  IsKinBetween (Some a) None = ⊥
  IsKinBetween None (Some b) = ⊥
  IsKinBetween None None = ⊥

  abbrev pub IsKinAt : List (PlainEntry S C) → ℕ → ℕ → Type 0
  IsKinAt fields i j = IsKinBetween (slice_get fields i) (slice_get fields j)
