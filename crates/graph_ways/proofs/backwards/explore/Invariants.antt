use Rattle.graph_ways.specs.Backwards.{InRound, steps_left}
use Rattle.graph_ways.proofs.backwards.explore.Given as goal

abbrev pub invariant-loop-node : goal.invariant-loop-node
invariant-loop-node l = InRound l.graph l.order l.root l.search

abbrev pub decreases-loop-node : goal.decreases-loop-node
decreases-loop-node l = steps_left l.graph l.search
