use Rattle.std.proofs.Common.{◌≡◌, length}
use Rattle.merge_graph.specs.Building.{rank_in, Built}
use Rattle.merge_graph.specs.Assembly.{AreFree}
use Rattle.merge_graph.proofs.document.add_fragments.Given as goal

abbrev pub invariant-loop-node : goal.invariant-loop-node
invariant-loop-node g l = record {
  built : Built l.schema l.document (rank_in l.cycles) l.building;
  free : AreFree l.document (rank_in l.cycles) l.building;
  many : length l.building.fragments.items ≡ l.node-index;
}
