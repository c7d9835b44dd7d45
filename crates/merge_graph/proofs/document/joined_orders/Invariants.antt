use Rattle.std.proofs.Common.{◌≡◌, take}
use Rattle.std.specs.List.{flat_map}
use Rattle.merge_graph.specs.Building.{stretch_of}
use Rattle.merge_graph.proofs.document.joined_orders.Given as goal

abbrev pub invariant-loop-stretch : goal.invariant-loop-stretch
invariant-loop-stretch l = l.joined.items ≡ flat_map (stretch_of l.order) (take l.stretch-index l.stretches)
