use Rattle.std.proofs.Common.{◌≡◌, List, [], take}
use Rattle.std.specs.List.{flat_map}
use Rattle.fragment_graph.specs.declared.graph.Spread.{Spread}
use Rattle.jagged_lists.specs.Lists.{Holds, list_at}
use Rattle.operation_scopes.proofs.reach.list_spreads.Given as goal

abbrev pub invariant-loop-place : goal.invariant-loop-place
invariant-loop-place l = (ls : List (List Spread)) → Holds ls [] l.index.spreads → l.found.items ≡ flat_map (list_at ls) (take l.place-index l.places)
