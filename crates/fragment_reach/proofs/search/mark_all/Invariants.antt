use Rattle.std.proofs.Common.{take}
use Rattle.fragment_reach.specs.Search.{Marks, WellMarked}
use Rattle.fragment_reach.proofs.search.mark_all.Given as goal

abbrev pub invariant-loop-spread : goal.invariant-loop-spread
invariant-loop-spread l =
    Marks (take l.spread-index l.spreads) l.initial.order.items l.initial.marks.items l.order.items l.marks.items
    × WellMarked l.order.items l.marks.items
