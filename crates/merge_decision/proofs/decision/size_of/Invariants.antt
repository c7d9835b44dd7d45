use Rattle.std.proofs.Common.{◌≤◌}
use Rattle.merge_sets.specs.World.{world}
use Rattle.merge_decision.specs.Size.{size_below}
use Rattle.merge_decision.proofs.decision.size_of.Given as goal

abbrev pub invariant-loop-s : goal.invariant-loop-s
invariant-loop-s g l = l.size ≤ size_below (world g.J.Judge.judgement l.graph) l.s
