-- The nodes of a document, as values with no reference.
use Rattle.std.specs.Prelude.{ℕ, List, String}
use Rattle.std.specs.declared.alloc.Global.{Global}
use denote.Ref.{Bor}
pub use Rattle.language_types.specs.Position.{Placed}
use Rattle.language_types.specs.declared.position.Span.{Span}
use Rattle.language.specs.declared.tree.Definition.{Definition}
use Rattle.language.specs.declared.tree.Operation.{Operation}
use Rattle.language.specs.declared.tree.Fragment.{Fragment}
use Rattle.language.specs.declared.tree.VariableDefinition.{VariableDefinition}
use Rattle.language.specs.declared.tree.Directive.{Directive}
use Rattle.language.specs.declared.tree.Selection.{Selection}
use Rattle.language.specs.declared.tree.Field.{Field}
use Rattle.language.specs.declared.tree.FragmentSpread.{FragmentSpread}
use Rattle.language.specs.declared.tree.InlineFragment.{InlineFragment}
use Rattle.language_values.specs.declared.value.InputValue.{InputValue}

-- a name with its place
abbrev pub Name : Type 0
Name = Placed (Bor (List ℕ))

-- a variable with its definition
abbrev pub VariableEntry : Type 0 → Type 0
VariableEntry S = Name × VariableDefinition S

-- the name of an argument with its value
abbrev pub ArgumentEntry : Type 0 → Type 0
ArgumentEntry S = Name × Placed (InputValue S)

-- the key of an object's field with its value
abbrev pub ObjectEntry : Type 0 → Type 0
ObjectEntry S = Placed (String Global) × Placed (InputValue S)

-- a node of each kind
pub data Node (S : Type 0) : Type 0 where
  document : List (Definition S) → Node S
  operation_definition : Placed (Operation S) → Node S
  fragment_definition : Placed (Fragment S) → Node S
  variable_definition : VariableEntry S → Node S
  directive : Placed (Directive S) → Node S
  argument : ArgumentEntry S → Node S
  selection_set : List (Selection S) → Node S
  field : Placed (Field S) → Node S
  fragment_spread : Placed (FragmentSpread S) → Node S
  inline_fragment : Placed (InlineFragment S) → Node S
  null_value : Span → Node S
  scalar_value : Placed S → Node S
  enum_value : Placed (List ℕ) → Node S
  variable_value : Placed (List ℕ) → Node S
  list_value : Placed (List (Placed (InputValue S))) → Node S
  object_value : Placed (List (ObjectEntry S)) → Node S
  object_field : ObjectEntry S → Node S
