use Rattle.std.proofs.Common.{◌+◌, ◌-◌, ◌*◌, length}
use Rattle.merge_sets.specs.World.{world}
use Rattle.merge_search.specs.Opened.{OpensFrom}
use Rattle.merge_search.proofs.opening.open_from.Given as goal

abbrev pub invariant-loop-f : goal.invariant-loop-f
invariant-loop-f g l = OpensFrom (world g.J.Judge.judgement l.graph) l.e l.i l.g l.opening l.fn.search l.search

abbrev pub decreases-loop-f : goal.decreases-loop-f
decreases-loop-f g l = (2 * length l.graph.fragments.items + length l.opening.waiting.items) - 2 * length l.opening.order.items
