use Rattle.std.proofs.Common.{◌-◌, length}
use Rattle.fragment_reach.specs.Search.{Searching}
use Rattle.fragment_reach.proofs.search.explore.Given as goal

abbrev pub invariant-loop-next : goal.invariant-loop-next
invariant-loop-next l = Searching l.graph l.starts l.order.items l.marks.items l.next

abbrev pub decreases-loop-next : goal.decreases-loop-next
decreases-loop-next l = length l.graph - l.next
