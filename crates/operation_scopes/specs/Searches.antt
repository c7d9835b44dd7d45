-- The search for the definitions that an operation reaches.
use Rattle.std.specs.Prelude.{ℕ, List, [], length, slice_get}
use Rattle.std.specs.Option.{option_map_or}
use Rattle.language.specs.declared.tree.Definition.{Definition}
use Rattle.fragment_graph.specs.Spreads.{PlacedSpreads}
use Rattle.fragment_reach.specs.Reach.{definition_spreads}
use Rattle.fragment_reach.specs.Search.{IsClear}
use Rattle.operation_scopes.specs.declared.index.ScopeIndex.{ScopeIndex}
use Rattle.operation_scopes.specs.declared.reach.Search.{Search}
use Rattle.operation_scopes.specs.Places.{numbered_places}

-- No fragment is marked.
abbrev pub IsReady : ScopeIndex → Search → Type 0
IsReady index s = IsClear (length index.graph.nodes.items) s.order.items s.marks.items

-- What is inside the definition at a place.
abbrev pub inside : {S X : Type 0} → (Definition S → List X) → List (Definition S) → ℕ → List X
inside f document place = option_map_or f (slice_get document place) []

abbrev pub spreads_at : {S : Type 0} → List (Definition S) → ℕ → PlacedSpreads
spreads_at document place = inside definition_spreads document place

abbrev pub fragment_places : ScopeIndex → ℕ → List ℕ
fragment_places index number = numbered_places index.fragments.items number
