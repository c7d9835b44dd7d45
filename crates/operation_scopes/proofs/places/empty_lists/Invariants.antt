use Rattle.std.proofs.Common.{◌≡◌, ℕ, length, []}
use Rattle.operation_scopes.specs.Places.{numbered_places}
use Rattle.operation_scopes.proofs.places.empty_lists.Given as goal

abbrev pub invariant-loop-number : goal.invariant-loop-number
invariant-loop-number l = (length l.lists.items ≡ l._number) × ((k : ℕ) → numbered_places l.lists.items k ≡ [])
