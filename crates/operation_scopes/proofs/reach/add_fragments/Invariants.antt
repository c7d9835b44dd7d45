use Rattle.std.proofs.Common.{◌≡◌, ◌++◌, take}
use Rattle.std.specs.List.{flat_map}
use Rattle.operation_scopes.specs.Searches.{fragment_places}
use Rattle.operation_scopes.proofs.reach.add_fragments.Given as goal

abbrev pub invariant-loop-number : goal.invariant-loop-number
invariant-loop-number l = l.places.items ≡ l.fn.places.items ++ flat_map (fragment_places l.index) (take l.number-index l.order)
