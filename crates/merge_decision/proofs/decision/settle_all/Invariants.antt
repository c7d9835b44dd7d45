use Rattle.std.proofs.Common.{◌≤◌}
use Rattle.merge_sets.specs.World.{world}
use Rattle.merge_decision.specs.Decided.{Keeps}
use Rattle.merge_decision.proofs.decision.settle_all.Given as goal

abbrev pub invariant-loop-work : goal.invariant-loop-work
invariant-loop-work g l = Keeps (world g.J.Judge.judgement l.graph) l.fn.work l.work × (l.work.budget ≤ l.fn.work.budget)

abbrev pub decreases-loop-work : goal.decreases-loop-work
decreases-loop-work g l = l.work.budget
