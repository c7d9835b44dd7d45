-- Definitions by scope, and those that an operation reaches.
use Rattle.std.specs.Prelude.{ℕ, ◌<◌, ◌≤◌, ◌≡◌, ◌↔◌, List, length, Option, Some, option_map, slice_get, Bool, false}
use Rattle.std.specs.List.{Contains}
use Rattle.std.specs.Str.{bytes_eq}
use Rattle.language_types.specs.declared.position.Span.{Span}
use Rattle.language_types.specs.declared.position.Spanning.{Spanning}
use Rattle.language.specs.declared.tree.Definition.{Definition}
use Rattle.language.specs.declared.tree.Definition.TheVariants as definition
use Rattle.language.specs.declared.tree.Operation.{Operation}
use Rattle.fragment_reach.specs.Reach.{ScopeName, operation, fragment, same_name, Reach}
use Rattle.operation_scopes.specs.declared.scope.Scope.{Scope}
use Rattle.operation_scopes.specs.declared.scope.Scope.TheVariants as scope

abbrev pub scope_name : Scope → ScopeName
scope_name (scope.Operation name) = operation (option_map (λ n. n.now) name)
scope_name (scope.Fragment name) = fragment name.now

-- Both are of operations of one name, or of one fragment.
abbrev pub same_scope : ScopeName → ScopeName → Bool
same_scope (operation a) (operation b) = same_name a b
same_scope (operation a) (fragment b) = false
same_scope (fragment a) (operation b) = false
same_scope (fragment a) (fragment b) = bytes_eq a b

-- No item occurs twice.
abbrev pub IsOnce : {X : Type 0} → List X → Type 0
IsOnce {X} xs = (i j : ℕ) (x : X) → slice_get xs i ≡ Some x → slice_get xs j ≡ Some x → i ≡ j

module _ {S : Type 0} where
  -- The name of an operation, if it has one.
  abbrev pub operation_name : Spanning (Operation S) Span → Option (List ℕ)
  operation_name o = option_map (λ n. n.item.now) o.item.name

  -- The scope of a definition.
  abbrev pub scope_of : Definition S → ScopeName
  scope_of (definition.Operation o) = operation (operation_name o)
  scope_of (definition.Fragment f) = fragment f.item.name.item.now

  -- The places of the definitions whose scopes the operations of the name reach, each once.
  pub record InReach (document : List (Definition S)) (name : Option (List ℕ)) (places : List ℕ) : Type 0 where
    pub once : IsOnce places
    pub within : (k : ℕ) → Contains places k → k < length document
    pub reached : (k : ℕ) (d : Definition S) → slice_get document k ≡ Some d → Contains places k ↔ Reach document name (scope_of d)

  -- Some operation has the name, or has none.
  abbrev pub IsOperationName : List (Definition S) → Option (List ℕ) → Type 0
  IsOperationName document name = (o : Spanning (Operation S) Span) × Contains document (definition.Operation o) × (operation_name o ≡ name)

  -- The names of the document's operations, each once.
  pub record OperationNames (document : List (Definition S)) (names : List (Option (List ℕ))) : Type 0 where
    pub once : IsOnce names
    pub are : (name : Option (List ℕ)) → Contains names name ↔ IsOperationName document name

  -- The last operation of the name.
  pub record IsLastOf (document : List (Definition S)) (name : Option (List ℕ)) (o : Spanning (Operation S) Span) : Type 0 where
    pub named : operation_name o ≡ name
    pub place : ℕ
    pub stands : slice_get document place ≡ Some (definition.Operation o)
    pub last : (i : ℕ) (x : Spanning (Operation S) Span) → slice_get document i ≡ Some (definition.Operation x)
        → operation_name x ≡ name → i ≤ place
