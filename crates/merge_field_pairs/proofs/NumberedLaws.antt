-- What stands between two fields by number, in both orders and whatever their surroundings.
use Rattle.std.proofs.Common.{◌≡◌, ℕ, List, Bool, true, Option, Some, None, map, option_map, option_copied, slice_get, refl, sym, ap, ◌∙◌}
use denote.Ref.{Bor}
use Rattle.std.proofs.lemmas.Option.{slice_get-map}
use Rattle.std.specs.Cmp.{IsEquivalence}
use Rattle.schema.specs.Catalog.{Catalog}
use Rattle.merge_field_pairs.specs.declared.entry.Entry.{Entry}
use Rattle.merge_field_pairs.specs.Entries.{PlainEntry, plain, IsTidy}
use Rattle.merge_field_pairs.specs.Numbered.{exclusive_between, direct_between, exclusive_at, direct_at, AreTidy}
use Rattle.merge_field_pairs.proofs.DirectLaws.{Le, exclusive_flip, direct_up, direct_flip_all, direct_self}

module _ {S C : Type 0} where
  -- a field that was looked up, by its values
  pub field_there : (fields : List (Entry S C)) (i : ℕ) (o : Option (Bor (Entry S C))) → option_copied o ≡ slice_get fields i → option_map plain (option_copied o) ≡ slice_get (map plain fields) i
  field_there fields i o h = ap (option_map plain) h ∙ sym (slice_get-map plain fields i)

  between_flip : (e : Bool) (o p : Option (PlainEntry S C)) → exclusive_between e p o ≡ exclusive_between e o p
  between_flip e None None = refl
  between_flip e None (Some b) = refl
  between_flip e (Some a) None = refl
  between_flip e (Some a) (Some b) = exclusive_flip e a b

  pub exclusive_at_flip : (fields : List (PlainEntry S C)) (e : Bool) (i j : ℕ) → exclusive_at fields e j i ≡ exclusive_at fields e i j
  exclusive_at_flip fields e i j = between_flip e (slice_get fields i) (slice_get fields j)

  between_true : (o p : Option (PlainEntry S C)) → exclusive_between true o p ≡ true
  between_true None None = refl
  between_true None (Some b) = refl
  between_true (Some a) None = refl
  between_true (Some a) (Some b) = refl

  pub exclusive_at_true : (fields : List (PlainEntry S C)) (i j : ℕ) → exclusive_at fields true i j ≡ true
  exclusive_at_true fields i j = between_true (slice_get fields i) (slice_get fields j)

  module _ (E : S → S → Bool) (schema : Catalog S C) where
    between_up : (e' e : Bool) (o p : Option (PlainEntry S C)) → Le e' e → direct_between E schema e' o p ≡ None → direct_between E schema e o p ≡ None
    between_up e' e None None le h = refl
    between_up e' e None (Some b) le h = refl
    between_up e' e (Some a) None le h = refl
    between_up e' e (Some a) (Some b) le h = direct_up E schema e' e a b le h

    pub direct_at_up : (fields : List (PlainEntry S C)) (e' e : Bool) (i j : ℕ) → Le e' e → direct_at E schema fields e' i j ≡ None → direct_at E schema fields e i j ≡ None
    direct_at_up fields e' e i j le h = between_up e' e (slice_get fields i) (slice_get fields j) le h

    module _ (laws : IsEquivalence E) where
      direct_between_flip : (e : Bool) (o p : Option (PlainEntry S C)) → ((a : PlainEntry S C) → o ≡ Some a → IsTidy a) → ((a : PlainEntry S C) → p ≡ Some a → IsTidy a) → direct_between E schema e p o ≡ direct_between E schema e o p
      direct_between_flip e None None f g = refl
      direct_between_flip e None (Some b) f g = refl
      direct_between_flip e (Some a) None f g = refl
      direct_between_flip e (Some a) (Some b) f g = direct_flip_all E schema laws e a b (f a refl) (g b refl)

      direct_between_self : (e : Bool) (o : Option (PlainEntry S C)) → ((a : PlainEntry S C) → o ≡ Some a → IsTidy a) → direct_between E schema e o o ≡ None
      direct_between_self e None f = refl
      direct_between_self e (Some a) f = direct_self E schema laws e a (f a refl)

      pub direct_at_flip : (fields : List (PlainEntry S C)) (e : Bool) (i j : ℕ) → AreTidy fields → direct_at E schema fields e j i ≡ direct_at E schema fields e i j
      direct_at_flip fields e i j tidy = direct_between_flip e (slice_get fields i) (slice_get fields j) (tidy i) (tidy j)

      pub direct_at_self : (fields : List (PlainEntry S C)) (e : Bool) (i : ℕ) → AreTidy fields → direct_at E schema fields e i i ≡ None
      direct_at_self fields e i tidy = direct_between_self e (slice_get fields i) (tidy i)
