use Rattle.std.proofs.Common.{◌≡◌, ◌<◌, ℕ, true}
use Rattle.bit_matrix.specs.Set.{has}
use Rattle.merge_sets.proofs.kinds.are_all_in.Given as goal

abbrev pub invariant-loop-k : goal.invariant-loop-k
invariant-loop-k l = (i : ℕ) → i < l.k → has l.rows i ≡ true
