use Rattle.std.proofs.Common.{◌≡◌, length}
use Rattle.merge_graph.specs.Building.{rank_in, Built}
use Rattle.merge_graph.specs.Assembly.{KnowsAll, AddsOthers}
use Rattle.merge_graph.proofs.document.add_others.Given as goal

abbrev pub invariant-loop-place : goal.invariant-loop-place
invariant-loop-place g l = record {
  sized : length l.building.stretches.items ≡ length l.document;
  adds : KnowsAll (rank_in l.cycles) l.fn.building.fragments.items → Built l.schema l.document (rank_in l.cycles) l.fn.building → AddsOthers l.schema l.document (rank_in l.cycles) l.place l.fn.building l.building;
}
