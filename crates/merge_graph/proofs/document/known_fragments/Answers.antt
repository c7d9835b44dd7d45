use Rattle.merge_graph.proofs.Ranks.{known_ranks}
use Rattle.merge_graph.proofs.document.known_fragments.Goals as goal

pub returns : goal.returns
returns c = known_ranks c.args.cycles.now c.as_slice.result.now c.args.count c.as_slice.ensures.value
