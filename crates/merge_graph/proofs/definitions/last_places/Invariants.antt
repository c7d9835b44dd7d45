use Rattle.merge_graph.proofs.Lasts.{Seen}
use Rattle.merge_graph.proofs.definitions.last_places.Given as goal

abbrev pub invariant-loop-place : goal.invariant-loop-place
invariant-loop-place g l = Seen l.document l.graph.numbers l.place l.places.items
