-- Names of types that a schema does not list (section 5.5.1.2).
use Rattle.std.specs.Prelude.{◌≡◌, true, ℕ, List, [], ◌∷◌, ◌++◌, Option, Some, None, is_some, if◌then◌else◌, codes}
use Rattle.language_types.specs.Types.{shape}
use Rattle.language_types.specs.declared.position.SourcePosition.{SourcePosition}
use Rattle.schema.specs.Catalog.{Catalog, type_in}
use Rattle.walk.specs.ContextState.{DocumentScope}
use Rattle.walk.specs.ErrorValue.{ErrorValue}
use Rattle.events.specs.Node.{Node, Name, fragment_definition, inline_fragment, variable_definition}
use Rattle.events.specs.Occurrence.{Occurrence}

abbrev pub unknown_type_message : List ℕ → List ℕ
unknown_type_message name = (codes "Unknown type \"" ++ name) ++ codes "\""

module _ {S C : Type 0} where
  -- a name of a type at a place: it is reported where no type of the schema has it
  abbrev pub unknown_type : Catalog S C → List ℕ → SourcePosition → List ErrorValue
  unknown_type schema name place =
      if is_some (type_in name schema) then [] else record
      { locations = place ∷ []; message = unknown_type_message name } ∷ []

  -- a type condition, if there is one
  abbrev pub unknown_condition : Catalog S C → Option Name → List ErrorValue
  unknown_condition schema None = []
  unknown_condition schema (Some name) = unknown_type schema name.item.now name.span.start

  -- at a node: the type that it names
  abbrev pub unknown_type_at : Catalog S C → Node S → List ErrorValue
  unknown_type_at schema (fragment_definition f) = unknown_condition schema (Some f.item.type_condition)
  unknown_type_at schema (inline_fragment i) = unknown_condition schema i.item.type_condition
  unknown_type_at schema (variable_definition v) = unknown_type schema (shape v.1.var_type.item).name v.1.var_type.span.start
  unknown_type_at schema _ = []

  -- at a fragment and an inline fragment its type condition, at a definition of a variable the innermost name of the
  -- type
  abbrev pub unknown_types : DocumentScope S C → Occurrence S C → List ErrorValue
  unknown_types scope o = unknown_type_at scope.schema o.node

  -- the schema has a type of the name
  abbrev pub IsKnown : Catalog S C → List ℕ → Type 0
  IsKnown schema name = is_some (type_in name schema) ≡ true

  -- a type condition, if there is one
  abbrev pub IsKnownCondition : Catalog S C → Option Name → Type 0
  IsKnownCondition schema None = Unit {0}
  IsKnownCondition schema (Some name) = IsKnown schema name.item.now

  -- at a node: the condition of a fragment, and the innermost name of a variable's type
  abbrev pub NamesKnown : Catalog S C → Node S → Type 0
  NamesKnown schema (fragment_definition f) = IsKnown schema f.item.type_condition.item.now
  NamesKnown schema (inline_fragment i) = IsKnownCondition schema i.item.type_condition
  NamesKnown schema (variable_definition v) = IsKnown schema (shape v.1.var_type.item).name
  NamesKnown schema _ = Unit {0}
