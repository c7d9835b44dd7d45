use Rattle.merge_graph.proofs.Assembling.{graph_is}
use Rattle.merge_graph.proofs.document.graph_of_searched.Goals as goal

pub returns : goal.returns
returns g c = graph_is c.args.schema.now c.args.document.now c.args.cycles.now c.in_ok-building.building c.in_ok-graph.graph c.requires c.in_ok-building.ensures c.in_ok-graph.ensures.is c.in_ok-graph.ensures.size c.in_ok-graph.ensures.inner
