use Rattle.fragment_graph.proofs.NamePaths.{searched_document}
use Rattle.fragment_graph.proofs.cycles.search_document.Goals as goal

pub returns : goal.returns
returns g c = searched_document c.args.document.now _ c.in_ok-graph.ensures c.in_ok-outcome.ensures.outcome c.in_ok-outcome.ensures.reports
