-- The types at a node, each given by a rule on the node above it.
use Rattle.std.specs.Prelude.{ℕ, List, Option, Some, None, option_and_then}
use Rattle.std.specs.Option.{option_map}
use Rattle.language_types.specs.Types.{TypeShape, shape, list_inner_of, non_null_named}
use Rattle.language.specs.declared.tree.Operation.{Operation}
use Rattle.language.specs.declared.tree.Fragment.{Fragment}
use Rattle.language.specs.declared.tree.VariableDefinition.{VariableDefinition}
use Rattle.language.specs.declared.tree.Field.{Field}
use Rattle.language.specs.declared.tree.InlineFragment.{InlineFragment}
use Rattle.meta.specs.declared.kinds.MetaTypeOf.{MetaTypeOf}
use Rattle.meta.specs.declared.arguments.Argument.{Argument}
use Rattle.schema.specs.Catalog.{Catalog}
use Rattle.events.specs.SchemaView.{named_type, root_literal, field_literal, input_field_literal, argument_literal}

-- the type and how it was written, the type of the selection set around it, and the type of the input that is expected
pub record Typing (S C : Type 0) : Type 0 where
  pub current : Option (MetaTypeOf S C)
  pub literal : Option TypeShape
  pub parent : Option (MetaTypeOf S C)
  pub input : Option TypeShape

module _ {S C : Type 0} where
  -- no type
  abbrev pub untyped : Typing S C
  untyped = record { current = None; literal = None; parent = None; input = None }

  -- where a type is written
  abbrev pub at_type : Catalog S C → Typing S C → Option TypeShape → Typing S C
  at_type schema t literal = record t { current = named_type schema literal; literal = literal }

  -- where an input of a type is expected
  abbrev pub at_input : Typing S C → Option TypeShape → Typing S C
  at_input t literal = record t { input = literal }

  -- an operation: the root of its kind
  abbrev pub at_operation : Catalog S C → Typing S C → Operation S → Typing S C
  at_operation schema t o = at_type schema t (root_literal schema o.operation_type)

  -- a definition of a fragment: its type condition
  abbrev pub at_fragment : Catalog S C → Typing S C → Fragment S → Typing S C
  at_fragment schema t f = at_type schema t (Some (non_null_named f.type_condition.item.now))

  -- a selection set: the type of what bears it is the parent
  abbrev pub at_set : Typing S C → Typing S C
  at_set t = record t { parent = t.current }

  -- a field: the type of the first field of its name in the parent type
  abbrev pub at_field : Catalog S C → Typing S C → Field S → Typing S C
  at_field schema t f = at_type schema t (field_literal t.parent f.name.item.now)

  -- an inline fragment: by its condition; without one nothing changes
  abbrev pub at_condition : Catalog S C → Typing S C → Option (List ℕ) → Typing S C
  at_condition schema t None = t
  at_condition schema t (Some name) = at_type schema t (Some (non_null_named name))

  -- an inline fragment, by its condition
  abbrev pub at_inline : Catalog S C → Typing S C → InlineFragment S → Typing S C
  at_inline schema t i = at_condition schema t (option_map (λ c. c.item.now) i.type_condition)

  -- a definition of a variable: its own type
  abbrev pub at_variable : Typing S C → VariableDefinition S → Typing S C
  at_variable t d = at_input t (Some (shape d.var_type.item))

  -- an argument: the type of the first of its name among these
  abbrev pub at_argument : Option (List (Argument S)) → Typing S C → List ℕ → Typing S C
  at_argument arguments t name = at_input t (argument_literal arguments name)

  -- the items of a list
  abbrev pub at_items : Typing S C → Typing S C
  at_items t = at_input t (option_and_then list_inner_of t.input)

  -- a field of an object
  abbrev pub at_object_field : Catalog S C → Typing S C → List ℕ → Typing S C
  at_object_field schema t key = at_input t (input_field_literal schema t.input key)
