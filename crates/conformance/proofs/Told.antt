-- Errors that are told.
use Rattle.std.proofs.Common.{◌≡◌, ℕ, List, IsPermutation, IsSorted, subst, sym}
use Rattle.conformance.specs.Told.{Tells, error_lines}
use Rattle.walk.specs.ErrorValue.{ErrorValue, error_cmp}

-- the same list, where it is seen otherwise
pub permuted_as : {X : Type 0} (xs ys zs : List X) → IsPermutation xs ys → zs ≡ ys → IsPermutation xs zs
permuted_as xs ys zs p e = subst (λ l. IsPermutation xs l) (sym e) p

-- sorted errors were written
pub tells : (errors items : List ErrorValue) (text : List ℕ) → errors ≡ items → IsSorted error_cmp items → text ≡ error_lines errors → Tells errors text
tells errors items text same sorted written = record { sorted = subst (IsSorted error_cmp) (sym same) sorted; written = written }
