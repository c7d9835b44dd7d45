-- Rows of sets.
use Rattle.std.proofs.Common.{◌≡◌, ℕ, zero, suc, ◌<◌, Bool, false, List, [], ◌∷◌, ◌++◌, length, get_or, set, slice_get, Option, refl, sym, ◌∙◌, ap, subst, inl, inr, arith}
use Rattle.std.proofs.lemmas.Bool.{cases_eq}
use Rattle.std.proofs.lemmas.Option.{slice_get_read}
use Rattle.std.specs.Option.{option_map_or}
use Rattle.bit_matrix.specs.declared.set.BitSet.{BitSet}
use Rattle.bit_matrix.specs.Set.{has}

abbrev pub row_has : ℕ → Option BitSet → Bool
row_has j row = option_map_or (λ s. has s j) row false

-- column j is in the set of row i
abbrev pub holds : List BitSet → ℕ → ℕ → Bool
holds rows i j = row_has j (slice_get rows i)

-- an empty set at the end adds nothing
pub holds-push : (rows : List BitSet) (s : BitSet) (i j : ℕ) → has s j ≡ false → holds (rows ++ s ∷ []) i j ≡ holds rows i j
holds-push [] s zero j none = none
holds-push [] s (suc i) j none = refl
holds-push (x ∷ rows) s zero j none = refl
holds-push (x ∷ rows) s (suc i) j none = holds-push rows s i j none

pub holds-set_same : (rows : List BitSet) (k : ℕ) (s : BitSet) (j : ℕ) → k < length rows → holds (set rows k s) k j ≡ has s j
holds-set_same [] k s j within = absurd (omega (arith, within))
holds-set_same (x ∷ rows) zero s j within = refl
holds-set_same (x ∷ rows) (suc k) s j within = holds-set_same rows k s j (omega (arith, within))

pub holds-set_other : (rows : List BitSet) (k : ℕ) (s : BitSet) (i j : ℕ) → (i ≡ k → ⊥) → holds (set rows k s) i j ≡ holds rows i j
holds-set_other [] k s i j apart = refl
holds-set_other (x ∷ rows) zero s zero j apart = absurd (apart refl)
holds-set_other (x ∷ rows) zero s (suc i) j apart = refl
holds-set_other (x ∷ rows) (suc k) s zero j apart = refl
holds-set_other (x ∷ rows) (suc k) s (suc i) j apart = holds-set_other rows k s i j (λ same. apart (ap suc same))

-- a set was put in place of the set of row k
module _ (rows : List BitSet) (k : ℕ) (s t : BitSet) (within : k < length rows) (read : s ≡ get_or rows k s) where
  pub was : (j : ℕ) → has s j ≡ holds rows k j
  was j = sym (ap (row_has j) (slice_get_read rows (length rows) k s refl within read))

  -- the two sets have the same numbers
  pub unchanged : ((m : ℕ) → has t m ≡ has s m) → (i j : ℕ) → holds (set rows k t) i j ≡ holds rows i j
  unchanged same i j =
      elim (cases_eq i k) [
        | inl is ↦ subst (λ (x : ℕ). holds (set rows k t) x j ≡ holds rows x j) (sym is) (holds-set_same rows k t j within ∙ (same j ∙ was j))
        | inr other ↦ holds-set_other rows k t i j other
      ]

  -- the two sets differ at no other number than l
  pub changed_others : (l : ℕ) → ((m : ℕ) → (m ≡ l → ⊥) → has t m ≡ has s m) → (i j : ℕ) → ((i ≡ k) × (j ≡ l) → ⊥)
      → holds (set rows k t) i j ≡ holds rows i j
  changed_others l others i j apart =
      elim (cases_eq i k) [
        | inl is ↦
            subst (λ (x : ℕ). holds (set rows k t) x j ≡ holds rows x j) (sym is)
            (holds-set_same rows k t j within ∙ (others j (λ same. apart (is, same)) ∙ was j))
        | inr other ↦ holds-set_other rows k t i j other
      ]

  pub changed_same : (l : ℕ) → has t l ≡ has s l → holds (set rows k t) k l ≡ holds rows k l
  changed_same l same = holds-set_same rows k t l within ∙ (same ∙ was l)
