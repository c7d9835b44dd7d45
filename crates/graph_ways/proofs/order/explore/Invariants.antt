use Rattle.graph_ways.specs.Leaving.{Ends, IsMet, Keeps}
use Rattle.graph_ways.proofs.order.explore.Given as goal

abbrev pub invariant-loop : goal.invariant-loop
invariant-loop l = record {
  ends : Ends l.graph l.end l.search;
  keeps : Keeps l.fn.search l.search;
  begun : IsMet l.search.met.items l.root;
}
