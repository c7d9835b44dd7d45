-- Fields in object types of different numbers exclude each other.
use Rattle.std.proofs.Common.{◌≡◌, ℕ, List, Bool, true, false, not, Option, Some, None, slice_get, option_and_then, refl, suc, ap}
use Rattle.std.specs.Option.{option_map_or}
use Rattle.std.specs.Str.{bytes_eq}
use Rattle.language_values.proofs.Members.{bytes_eq-same}
use Rattle.name_tables.specs.Slots.{slot_number}
use Rattle.merge_field_pairs.specs.Entries.{PlainEntry, are_different, exclusive_of, object_name}
use Rattle.merge_field_pairs.specs.Numbered.{exclusive_between, exclusive_at}
use Rattle.merge_field_pairs.specs.Objects.{object_number, object_number_at}

abbrev number_of : Option (List ℕ) → ℕ
number_of name = option_map_or (λ n. suc (slot_number n 16384)) name 0

differ : (n m : List ℕ) → (suc (slot_number n 16384) ≡ suc (slot_number m 16384) → ⊥) → not (bytes_eq n m) ≡ true
differ n m apart = step (bytes_eq n m) refl
  where
    step : (b : Bool) → bytes_eq n m ≡ b → not b ≡ true
    step true is = absurd (apart (ap (λ k. suc (slot_number k 16384)) (bytes_eq-same n m is)))
    step false is = refl

names_differ : (p q : Option (List ℕ)) → (number_of p ≡ 0 → ⊥) → (number_of q ≡ 0 → ⊥) → (number_of p ≡ number_of q → ⊥) → are_different p q ≡ true
names_differ None q f g apart = absurd (f refl)
names_differ (Some n) None f g apart = absurd (g refl)
names_differ (Some n) (Some m) f g apart = differ n m apart

module _ {S C : Type 0} where
  abbrev number_between : Option (PlainEntry S C) → ℕ
  number_between o = option_map_or object_number o 0

  between_objects : (o p : Option (PlainEntry S C)) → (number_between o ≡ 0 → ⊥) → (number_between p ≡ 0 → ⊥) → (number_between o ≡ number_between p → ⊥)
      → exclusive_between false o p ≡ true
  between_objects None p f g apart = absurd (f refl)
  between_objects (Some a) None f g apart = absurd (g refl)
  between_objects (Some a) (Some b) f g apart = names_differ (option_and_then object_name a.parent) (option_and_then object_name b.parent) f g apart

  pub objects_apart : (fields : List (PlainEntry S C)) (i j : ℕ) → (object_number_at fields i ≡ 0 → ⊥) → (object_number_at fields j ≡ 0 → ⊥)
      → (object_number_at fields i ≡ object_number_at fields j → ⊥) → exclusive_at fields false i j ≡ true
  objects_apart fields i j f g apart = between_objects (slice_get fields i) (slice_get fields j) f g apart
