use Rattle.graph_ways.specs.Entering.{AreBare}
use Rattle.graph_ways.proofs.entering.no_links.Given as goal

-- so many nodes so far
abbrev pub invariant-loop : goal.invariant-loop
invariant-loop l = AreBare l.counter l.entering.items
