-- Sets of numbers to which one is added.
use Rattle.std.proofs.Common.{◌≡◌, ℕ, true, inl, inr, sym, subst, ◌∙◌}
use Rattle.std.proofs.lemmas.Bool.{cases_eq}
use Rattle.bit_matrix.specs.Set.{has}
use Rattle.bit_matrix.specs.declared.set.BitSet.{BitSet}

-- a number was added, and those before it stay
pub stays : (old new : BitSet) (n : ℕ) → has new n ≡ true → ((m : ℕ) → (m ≡ n → ⊥) → has new m ≡ has old m) → (m : ℕ) → has old m ≡ true → has new m ≡ true
stays old new n there others m h = elim (cases_eq m n) [
  | inl is ↦ subst (λ (k : ℕ). has new k ≡ true) (sym is) there
  | inr other ↦ others m other ∙ h
]
