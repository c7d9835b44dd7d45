use Rattle.std.specs.List.{flat_map, range_with_len}
use Rattle.graph_ways.specs.Entering.{Enters}
use Rattle.graph_ways.specs.Ways.{links_from}
use Rattle.graph_ways.proofs.entering.entering_of.Given as goal

-- those of the nodes before this
abbrev pub invariant-loop-node : goal.invariant-loop-node
invariant-loop-node l = Enters (flat_map (links_from l.graph) (range_with_len 0 l.node)) l.initial.entering.items l.entering.items
