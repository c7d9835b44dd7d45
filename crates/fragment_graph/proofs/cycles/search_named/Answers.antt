use Rattle.std.proofs.Common.{subst, List}
use Rattle.fragment_graph.specs.declared.graph.Node.{Node}
use Rattle.fragment_graph.specs.Searched.{Searched}
use Rattle.fragment_graph.proofs.cycles.search_named.Goals as goal

pub returns-clause-outcome : goal.returns-clause-outcome
returns-clause-outcome c = subst (λ (zs : List Node). Searched zs c.in_ok-outcome.outcome) c.as_slice.ensures.value c.in_ok-outcome.ensures
