-- A use more in the last of several lists.
use Rattle.std.proofs.Common.{◌≡◌, ℕ, zero, suc, ◌+◌, List, [], ◌∷◌, ◌++◌, length, map, slice_index_or, slice_set, ap, ◌∙◌, arith}
use Rattle.std.specs.Prelude.{Vec}
use Rattle.std.specs.declared.alloc.Global.{Global}
use Rattle.std.proofs.lemmas.List.{map-append}
use Rattle.rules_positions.specs.JudgedUses.{values_in}
use Rattle.rules_positions.specs.RecordedUses.{with_use}

module _ {R U : Type 0} (value : R → U) where
  pub set_last : (lists : List (Vec R Global)) (n : ℕ) (was now : Vec R Global) (u : R) → length lists ≡ n + 1 → was ≡ slice_index_or lists n was → now.items ≡ was.items ++ u ∷ []
      → values_in value (slice_set lists n now) ≡ with_use (value u) (values_in value lists)
  set_last [] n was now u l is more = absurd (omega (arith, l))
  set_last (v ∷ []) zero was now u l is more =
      ap (λ z. map value z ∷ []) (more ∙ ap (λ (w : Vec R Global). w.items ++ u ∷ []) is) ∙ ap (λ z. z ∷ []) (map-append value v.items (u ∷ []))
  set_last (v ∷ []) (suc n) was now u l is more = absurd (omega (arith, l))
  set_last (v ∷ (w ∷ rest)) zero was now u l is more = absurd (omega (arith, l))
  set_last (v ∷ (w ∷ rest)) (suc n) was now u l is more = ap (λ z. map value v.items ∷ z) (set_last (w ∷ rest) n was now u (omega (arith, l)) is more)
