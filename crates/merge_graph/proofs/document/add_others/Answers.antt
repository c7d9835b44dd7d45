use Rattle.merge_graph.proofs.Assembling.{others_none, others_next, others_all}
use Rattle.merge_graph.specs.Building.{rank_in}
use Rattle.merge_graph.proofs.document.add_others.Goals as goal

pub loop-place-init : goal.loop-place-init
loop-place-init g c = record {
  sized = c.requires;
  adds = λ all built. others_none c.args.schema.now c.args.document.now (rank_in c.args.cycles.now) c.args.building.now built;
}

pub loop-place-preserved : goal.loop-place-preserved
loop-place-preserved g c = record {
  sized = c.in_ok-add_missing.ensures.sized;
  adds = λ all built.
      others_next c.args.schema.now c.args.document.now (rank_in c.args.cycles.now) c.loop-place.place c.args.building.now c.loop-place.building c.add_missing.new.building
      (c.loop-place.invariant.adds all built) c.in_ok-add_missing.ensures.adds all;
}

pub returns : goal.returns
returns g c = λ all built.
    others_all c.args.schema.now c.args.document.now (rank_in c.args.cycles.now) c.loop-place.place c.args.building.now c.loop-place.building
    c.loop-place-test.false (c.loop-place.invariant.adds all built)
