use Rattle.std.proofs.Common.{map, take}
use Rattle.graph_ways.specs.Entering.{Enters}
use Rattle.graph_ways.specs.Ways.{link_from}
use Rattle.graph_ways.proofs.entering.enter_from.Given as goal

-- those of the edges that were seen
abbrev pub invariant-loop-edge : goal.invariant-loop-edge
invariant-loop-edge l = Enters (map (link_from l.from) (take l.edge-index l.own)) l.initial.entering.items l.entering.items
