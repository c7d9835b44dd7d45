use Rattle.std.proofs.Common.{◌≡◌, ◌⊎◌, ℕ, true}
use Rattle.std.specs.List.{Contains}
use Rattle.bit_matrix.specs.Set.{has}
use Rattle.merge_decision.proofs.work.insert_all.Given as goal

abbrev pub invariant-loop-s : goal.invariant-loop-s
invariant-loop-s l = (t : ℕ) → has l.held t ≡ true → (has l.fn.held t ≡ true) ⊎ Contains l.sets t
