use Rattle.std.proofs.Common.{◌+◌, ◌-◌, ◌*◌, length}
use Rattle.merge_sets.specs.World.{world}
use Rattle.merge_sets.specs.Sound.{Sound}
use Rattle.merge_sets.proofs.opening.open_reached.Given as goal

abbrev pub invariant-loop-f : goal.invariant-loop-f
invariant-loop-f g l = Sound (world g.J.Judge.judgement l.graph) l.starts l.opening

abbrev pub decreases-loop-f : goal.decreases-loop-f
decreases-loop-f g l = (2 * length l.graph.fragments.items + length l.opening.waiting.items) - 2 * length l.opening.order.items
