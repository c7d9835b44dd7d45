use Rattle.std.proofs.Common.{◌≤◌}
use Rattle.merge_decision.proofs.settling.take_held.Given as goal

abbrev pub invariant-loop-union : goal.invariant-loop-union
invariant-loop-union l = l.rest ≤ l.fn.budget
