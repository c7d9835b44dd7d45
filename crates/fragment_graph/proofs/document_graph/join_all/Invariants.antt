use Rattle.std.proofs.Common.{take}
use Rattle.fragment_graph.specs.DocumentGraph.{Joined}
use Rattle.fragment_graph.proofs.document_graph.join_all.Given as goal

abbrev pub invariant-loop-place : goal.invariant-loop-place
invariant-loop-place g l = Joined l.numbers (take l.place l.document) l.nodes.items
