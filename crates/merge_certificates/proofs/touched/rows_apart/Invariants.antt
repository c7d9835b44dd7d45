use Rattle.std.proofs.Common.{◌≡◌, ℕ, true}
use Rattle.bit_matrix.specs.Set.{has}
use Rattle.merge_certificates.specs.Touched.{IsFreeOf}
use Rattle.merge_certificates.proofs.touched.rows_apart.Given as goal

abbrev pub invariant-loop-k : goal.invariant-loop-k
invariant-loop-k l = (k : ℕ) → has l.rows k ≡ true → IsFreeOf l.touched k l.names
