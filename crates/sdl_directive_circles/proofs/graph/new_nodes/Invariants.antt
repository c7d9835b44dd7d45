use Rattle.sdl_directive_circles.specs.Graph.{AreBare}
use Rattle.sdl_directive_circles.proofs.graph.new_nodes.Given as goal

-- so many nodes so far
abbrev pub invariant-loop : goal.invariant-loop
invariant-loop l = AreBare l.counter l.nodes.items
