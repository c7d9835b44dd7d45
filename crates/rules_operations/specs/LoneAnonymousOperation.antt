-- Operations without a name that are not alone (section 5.2.2.1).
use Rattle.std.specs.Prelude.{◌≡◌, Bool, true, ℕ, List, [], ◌∷◌, Option, Some, None, is_some, nat_lt, length}
use Rattle.std.specs.Prelude.{if◌then◌else◌, codes}
use Rattle.std.specs.List.{flat_map}
use Rattle.language.specs.declared.tree.Definition.{Definition}
use Rattle.language.specs.declared.tree.Definition.TheVariants as definition
use Rattle.language.specs.declared.tree.Operation.{Operation}
use Rattle.walk.specs.ContextState.{DocumentScope}
use Rattle.walk.specs.ErrorValue.{ErrorValue}
use Rattle.events.specs.Node.{Node, Name, Placed, operation_definition}
use Rattle.events.specs.Occurrence.{Occurrence}

abbrev pub anonymous_message : List ℕ
anonymous_message = codes "This anonymous operation must be the only defined operation"

-- an operation, and no fragment
abbrev pub operation_of : {S : Type 0} → Definition S → List (Placed (Operation S))
operation_of (definition.Operation o) = o ∷ []
operation_of (definition.Fragment f) = []

-- the operations of a document, in their order
abbrev pub operations : {S : Type 0} → List (Definition S) → List (Placed (Operation S))
operations doc = flat_map operation_of doc

-- an operation, by its name
abbrev pub nameless : {S : Type 0} → Placed (Operation S) → Option Name → List ErrorValue
nameless o None = record { locations = o.span.start ∷ []; message = anonymous_message } ∷ []
nameless o (Some name) = []

-- an operation without a name is reported, at its start
abbrev pub anonymous : {S : Type 0} → Placed (Operation S) → List ErrorValue
anonymous o = nameless o o.item.name

-- whether a document has two operations or more
abbrev pub has_several : {S C : Type 0} → DocumentScope S C → List (Definition S) → Bool
has_several scope doc = nat_lt 1 (length (operations doc))

-- at a node: an operation
abbrev pub anonymous_at : {S : Type 0} → Node S → List ErrorValue
anonymous_at (operation_definition o) = anonymous o
anonymous_at _ = []

-- at an operation: where there are several, it is reported if it has no name
abbrev pub anonymous_among : {S C : Type 0} → DocumentScope S C → Bool → Occurrence S C → List ErrorValue
anonymous_among scope several o = if several then anonymous_at o.node else []

-- at a node: an operation has a name
abbrev pub HasName : {S : Type 0} → Node S → Type 0
HasName (operation_definition o) = is_some o.item.name ≡ true
HasName _ = Unit {0}

-- where there are several operations, each has a name
abbrev pub HasNameAmong : {S C : Type 0} → DocumentScope S C → Bool → Occurrence S C → Type 0
HasNameAmong scope several o = several ≡ true → HasName o.node
