use Rattle.std.proofs.Common.{◌≤◌}
use Rattle.merge_sets.specs.World.{world}
use Rattle.merge_decision.specs.Decided.{HeldFrom, IsWhole}
use Rattle.merge_decision.proofs.decision.settle_sets.Given as goal

abbrev pub invariant-loop-s : goal.invariant-loop-s
invariant-loop-s g l =
    let w = world g.J.Judge.judgement l.graph in
    IsWhole w l.work × HeldFrom w l.work.unions.items l.s × (l.work.budget ≤ l.fn.work.budget)

abbrev pub decreases-loop-s : goal.decreases-loop-s
decreases-loop-s g l = l.s
