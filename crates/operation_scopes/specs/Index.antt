-- The index of the scopes of a document.
use Rattle.std.specs.Prelude.{ℕ, ◌≡◌, List, [], ◌∷◌, ◌++◌, Option, None, Some, Vec, length, map, option_map, slice_get}
use Rattle.std.specs.Prelude.{if◌then◌else◌}
use Rattle.std.specs.declared.alloc.Global.{Global}
use Rattle.language_types.specs.declared.position.Span.{Span}
use Rattle.language_types.specs.declared.position.Spanning.{Spanning}
use Rattle.language.specs.declared.tree.Definition.{Definition}
use Rattle.language.specs.declared.tree.Definition.TheVariants as definition
use Rattle.language.specs.declared.tree.Operation.{Operation}
use Rattle.fragment_graph.specs.declared.numbers.Numbers.{Numbers}
use Rattle.fragment_graph.specs.declared.graph.Spread.{Spread}
use Rattle.fragment_graph.specs.DocumentGraph.{IsGraphOf}
use Rattle.fragment_graph.specs.Numbers.{names_of, number_of, or_else}
use Rattle.jagged_lists.specs.declared.lists.FlatLists.{FlatLists}
use Rattle.jagged_lists.specs.Lists.{Holds}
use Rattle.fragment_reach.specs.OperationSpreads.{resolved_lists, resolved_starts}
use Rattle.fragment_reach.specs.Reach.{operation, fragment, same_name}
use Rattle.operation_scopes.specs.declared.index.ScopeIndex.{ScopeIndex}
use Rattle.operation_scopes.specs.declared.operation_numbers.OperationNumbers.{OperationNumbers}
use Rattle.operation_scopes.specs.OperationNumbers.{number_at}
use Rattle.operation_scopes.specs.Places.{AddsAt, numbered_places, places_of}
use Rattle.operation_scopes.specs.Scopes.{OperationNames, operation_name}

abbrev pub operation_names : ScopeIndex → List (Option (List ℕ))
operation_names index = map (option_map (λ n. n.now)) index.names.items

-- the spreads inside the operations are kept, with the numbers that their names have in the graph
pub record HasSpreads {S : Type 0} (document : List (Definition S)) (n : Numbers) (spreads : FlatLists Spread) : Type 0 where
  pub lists : Holds (resolved_lists n document) [] spreads
  pub all : spreads.items.items ≡ resolved_starts n document

-- The operations of each name have the places in its list.
abbrev pub HasOperations : {S : Type 0} → List (Definition S) → List (Option (List ℕ)) → List (Vec ℕ Global) → Type 0
HasOperations document names lists =
    (name : Option (List ℕ)) (k : ℕ) → slice_get names k ≡ Some name
    → numbered_places lists k ≡ places_of document (operation name)

-- The definitions of each fragment have the places in the list of its number.
abbrev pub HasFragments : {S : Type 0} → List (Definition S) → Numbers → List (Vec ℕ Global) → Type 0
HasFragments document n lists =
    (name : List ℕ) (k : ℕ) → number_of n name ≡ Some k → numbered_places lists k ≡ places_of document (fragment name)

-- There is a list for each number.
abbrev pub HasLists : Numbers → List (Vec ℕ Global) → Type 0
HasLists n lists = length lists ≡ length (names_of n)

pub record IsIndexOf {S : Type 0} (document : List (Definition S)) (index : ScopeIndex) : Type 0 where
  pub names : OperationNames document (operation_names index)
  pub operations : HasOperations document (operation_names index) index.operations.items
  pub fragments : HasFragments document index.graph.numbers index.fragments.items
  pub lists : HasLists index.graph.numbers index.fragments.items
  pub graph : IsGraphOf document index.graph
  pub spreads : HasSpreads document index.graph.numbers index.spreads

-- The place was added to the list of a name with a number; a new name was added, with a list of this place.
abbrev pub AddsPlace : Option (List ℕ) → ℕ → Option ℕ → ScopeIndex → ScopeIndex → Type 0
AddsPlace name place (Some k) old new = (new.names ≡ old.names) × AddsAt k place old.operations.items new.operations.items
AddsPlace name place None old new =
    (operation_names new ≡ operation_names old ++ name ∷ []) × (v : Vec ℕ Global) × (v.items ≡ place ∷ [])
    × (new.operations.items ≡ old.operations.items ++ v ∷ [])

-- An operation of this name was added, at this place.
pub record AddsOperation (name : Option (List ℕ)) (place : ℕ) (n n' : OperationNumbers) (old new : ScopeIndex) : Type 0 where
  pub numbers : (other : Option (List ℕ))
      → number_at n' other ≡ or_else (number_at n other)
      (if same_name name other then Some (length (operation_names old)) else None)
  pub places : AddsPlace name place (number_at n name) old new
  pub fragments : new.fragments ≡ old.fragments
  pub graph : new.graph ≡ old.graph
  pub spreads : new.spreads ≡ old.spreads

-- A definition of the fragment of this number was added, at this place.
pub record AddsFragment (number : Option ℕ) (place : ℕ) (old new : ScopeIndex) : Type 0 where
  pub places : (k : ℕ) → number ≡ Some k → AddsAt k place old.fragments.items new.fragments.items
  pub names : new.names ≡ old.names
  pub operations : new.operations ≡ old.operations
  pub graph : new.graph ≡ old.graph
  pub spreads : new.spreads ≡ old.spreads

-- A definition was added, with the number of its name and its place.
abbrev pub AddsDefinition : {S : Type 0} → Definition S → Option ℕ → ℕ → OperationNumbers → OperationNumbers
    → ScopeIndex → ScopeIndex → Type 0
AddsDefinition (definition.Operation o) number place n n' old new = AddsOperation (operation_name o) place n n' old new
AddsDefinition (definition.Fragment f) number place n n' old new = (n' ≡ n) × AddsFragment number place old new

abbrev pub NoOperationAt : {S : Type 0} → List (Definition S) → ℕ → Type 0
NoOperationAt {S} document place = (o : Spanning (Operation S) Span) → slice_get document place ≡ Some (definition.Operation o) → ⊥
