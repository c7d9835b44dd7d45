use Rattle.merge_graph.specs.Building.{rank_in}
use Rattle.merge_graph.proofs.Assembling.{built_none, free_none, complete}
use Rattle.merge_graph.proofs.document.build.Goals as goal

pub add_fragments-requires-clause-built : goal.add_fragments-requires-clause-built
add_fragments-requires-clause-built g c = built_none c.args.schema.now c.args.document.now (rank_in c.args.cycles.now) c.in_ok-building.building c.in_ok-building.ensures

pub add_fragments-requires-clause-free : goal.add_fragments-requires-clause-free
add_fragments-requires-clause-free g c = free_none c.args.document.now (rank_in c.args.cycles.now) c.in_ok-building.building c.in_ok-building.ensures

pub returns : goal.returns
returns g c =
    complete c.args.schema.now c.args.document.now (rank_in c.args.cycles.now) c.add_fragments.new.building c.add_others.new.building c.in_ok-add_fragments.ensures.all
    (c.in_ok-add_others.ensures c.in_ok-add_fragments.ensures.all c.in_ok-add_fragments.ensures.built)
