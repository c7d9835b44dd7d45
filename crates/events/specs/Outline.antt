-- A document as an outline: its nodes in their order, each with its types and what stands in it.
use Rattle.std.specs.Prelude.{List, [], ◌∷◌, Option, Some, None, map, string_bytes, String}
use Rattle.std.specs.declared.vec.Vec.{Vec}
use Rattle.std.specs.declared.alloc.Global.{Global}
use Rattle.language_types.specs.declared.position.Span.{Span}
use Rattle.language.specs.declared.tree.Definition.{Definition}
use Rattle.language.specs.declared.tree.Definition.TheVariants as definition
use Rattle.language.specs.declared.tree.Operation.{Operation}
use Rattle.language.specs.declared.tree.Fragment.{Fragment}
use Rattle.language.specs.declared.tree.Arguments.{Arguments}
use Rattle.language.specs.declared.tree.VariableDefinitions.{VariableDefinitions}
use Rattle.language.specs.declared.tree.Directive.{Directive}
use Rattle.language.specs.declared.tree.Selection.{Selection}
use Rattle.language.specs.declared.tree.Selection.TheOpen as opened
use Rattle.language.specs.declared.tree.Selection.TheFolds.{para-Selection}
use Rattle.language.specs.declared.tree.Field.{Field}
use Rattle.language.specs.declared.tree.FragmentSpread.{FragmentSpread}
use Rattle.language.specs.declared.tree.InlineFragment.{InlineFragment}
use Rattle.language_values.specs.declared.value.InputValue.{InputValue}
use Rattle.language_values.specs.declared.value.InputValue.TheOpen as opened_value
use Rattle.language_values.specs.declared.value.InputValue.TheFolds.{para-InputValue}
use Rattle.meta.specs.declared.arguments.Argument.{Argument}
use Rattle.schema.specs.Catalog.{Catalog}
use Rattle.events.specs.Node.{Node, Placed, ArgumentEntry, ObjectEntry, VariableEntry}
use Rattle.events.specs.SchemaView.{field_arguments, directive_arguments}
use Rattle.events.specs.Typing.{Typing, at_operation, at_fragment, at_set, at_field, at_inline, at_variable}
use Rattle.events.specs.Typing.{at_argument, at_items, at_object_field}

-- nothing, or a node with its types and what stands in it, and then what comes after it
pub data Outline (S C : Type 0) : Type 0 where
  empty : Outline S C
  entry : Node S → Typing S C → Outline S C → Outline S C → Outline S C

-- what stands in a node, at its types
abbrev pub Below : Type 0 → Type 0 → Type 0
Below S C = Typing S C → Outline S C

-- a value, at the stretch where it stands
abbrev pub BelowValue : Type 0 → Type 0 → Type 0
BelowValue S C = Span → Below S C

module _ {S C : Type 0} where
  -- one node
  abbrev pub node_with : Node S → Typing S C → Outline S C → Outline S C
  node_with node types inside = entry node types inside empty

  -- the one and then the other
  abbrev pub beside : Outline S C → Outline S C → Outline S C
  beside empty other = other
  beside (entry node types inside after) other = entry node types inside (beside after other)

  -- the outlines of these in turn
  abbrev pub each : {X : Type 0} → (X → Outline S C) → List X → Outline S C
  each f [] = empty
  each f (x ∷ xs) = beside (f x) (each f xs)

  -- of what may be there
  abbrev pub if_there : {X : Type 0} → (X → Outline S C) → Option X → Outline S C
  if_there f None = empty
  if_there f (Some x) = f x

  -- the outlines of a list that may be missing
  abbrev pub each_if_there : {X : Type 0} → (X → Outline S C) → Option (Vec X Global) → Outline S C
  each_if_there f None = empty
  each_if_there f (Some xs) = each f xs.items

  -- a value inside a list, as a node has it
  abbrev pub item_of : Placed (InputValue S × BelowValue S C) → Placed (InputValue S)
  item_of v = record { item = v.item.0; span = v.span }

  -- an entry of an object, as a node has it
  abbrev pub entry_of : Placed (String Global) × Placed (InputValue S × BelowValue S C) → ObjectEntry S
  entry_of e = (e.0, item_of e.1)

  -- one level of a value, by what was made of the values in it
  abbrev pub value_step : Catalog S C → opened_value.InputValue-F S (InputValue S × BelowValue S C) → BelowValue S C
  value_step schema opened_value.Null p t = node_with (Node.null_value p) t empty
  value_step schema (opened_value.Scalar s) p t = node_with (Node.scalar_value (record { item = s; span = p })) t empty
  value_step schema (opened_value.Enum s) p t = node_with (Node.enum_value (record { item = string_bytes s; span = p })) t empty
  value_step schema (opened_value.Variable s) p t = node_with (Node.variable_value (record { item = string_bytes s; span = p })) t empty
  value_step schema (opened_value.List vs) p t =
      node_with (Node.list_value (record { item = map item_of vs.items; span = p })) t (each (λ v. v.item.1 v.span (at_items t)) vs.items)
  value_step schema (opened_value.Object es) p t =
      node_with (Node.object_value (record { item = map entry_of es.items; span = p })) t
      (each (λ e. let u = at_object_field schema t (string_bytes e.0.item) in
      node_with (Node.object_field (entry_of e)) u (e.1.item.1 e.1.span u)) es.items)

  -- a value, at the stretch where it stands
  unfoldable pub outline_of_bare_value : Catalog S C → InputValue S → BelowValue S C
  outline_of_bare_value schema = para-InputValue S (BelowValue S C) (value_step schema)

  -- a value that stands in the text
  abbrev pub outline_of_value : Catalog S C → Typing S C → Placed (InputValue S) → Outline S C
  outline_of_value schema t v = outline_of_bare_value schema v.item v.span t

  -- a field of an object, with its value
  abbrev pub outline_of_object_field : Catalog S C → Typing S C → ObjectEntry S → Outline S C
  outline_of_object_field schema t e =
      let u = at_object_field schema t (string_bytes e.0.item) in node_with (Node.object_field e) u (outline_of_value schema u e.1)

  -- an argument, with its value
  abbrev pub outline_of_argument : Catalog S C → Option (List (Argument S)) → Typing S C → ArgumentEntry S → Outline S C
  outline_of_argument schema arguments t a =
      let u = at_argument arguments t a.0.item.now in node_with (Node.argument a) u (outline_of_value schema u a.1)

  -- each argument of a list, if there is one
  abbrev pub outline_of_arguments : Catalog S C → Option (List (Argument S)) → Typing S C → Option (Placed (Arguments S)) → Outline S C
  outline_of_arguments schema arguments t written =
      if_there (λ list. each (outline_of_argument schema arguments t) list.item.items.items) written

  -- a directive, with its arguments
  abbrev pub outline_of_directive : Catalog S C → Typing S C → Placed (Directive S) → Outline S C
  outline_of_directive schema t d =
      node_with (Node.directive d) t (outline_of_arguments schema (directive_arguments schema d.item.name.item.now) t d.item.arguments)

  -- each directive of a list, if there is one
  abbrev pub outline_of_directives : Catalog S C → Typing S C → Option (Vec (Placed (Directive S)) Global) → Outline S C
  outline_of_directives schema t written = each_if_there (outline_of_directive schema t) written

  -- a definition of a variable: its default value, then its directives
  abbrev pub outline_of_variable_definition : Catalog S C → Typing S C → VariableEntry S → Outline S C
  outline_of_variable_definition schema t d =
      let u = at_variable t d.1 in
      node_with (Node.variable_definition d) u
      (beside (if_there (outline_of_value schema u) d.1.default_value) (outline_of_directives schema u d.1.directives))

  -- each definition of a variable, if there is a list
  abbrev pub outline_of_variable_definitions : Catalog S C → Typing S C → Option (Placed (VariableDefinitions S)) → Outline S C
  outline_of_variable_definitions schema t written =
      if_there (λ list. each (outline_of_variable_definition schema t) list.item.items.items) written

  -- Selections, by what was made of those in them.
  abbrev pub set_step : List (Selection S × Below S C) → Below S C
  set_step children t = node_with (Node.selection_set (map (λ c. c.0) children)) (at_set t) (each (λ c. c.1 (at_set t)) children)

  -- a selection set that may be missing
  abbrev pub set_step_if_there : Option (Vec (Selection S × Below S C) Global) → Below S C
  set_step_if_there None t = empty
  set_step_if_there (Some children) t = set_step children.items t

  -- in a field: arguments, directives, selection set
  abbrev pub field_step : Catalog S C → opened.Field-F S (Selection S × Below S C) (Field S × Below S C)
      (InlineFragment S × Below S C) → Below S C
  field_step schema f t =
      beside (outline_of_arguments schema (field_arguments t.parent f.name.item.now) t f.arguments)
      (beside (outline_of_directives schema t f.directives) (set_step_if_there f.selection_set t))

  -- in an inline fragment: directives, selection set
  abbrev pub inline_step : Catalog S C → opened.InlineFragment-F S (Selection S × Below S C) (Field S × Below S C)
      (InlineFragment S × Below S C) → Below S C
  inline_step schema i t = beside (outline_of_directives schema t i.directives) (set_step i.selection_set.items t)

  -- a spread: its directives
  abbrev pub outline_of_spread : Catalog S C → Typing S C → Placed (FragmentSpread S) → Outline S C
  outline_of_spread schema t s = node_with (Node.fragment_spread s) t (outline_of_directives schema t s.item.directives)

  -- one level of a selection, by what was made of the selections in it
  abbrev pub selection_step : Catalog S C
      → opened.Selection-F S (Selection S × Below S C) (Field S × Below S C) (InlineFragment S × Below S C) → Below S C
  selection_step schema (opened.Field f) t =
      let u = at_field schema t f.item.0 in node_with (Node.field (record { item = f.item.0; span = f.span })) u (f.item.1 u)
  selection_step schema (opened.FragmentSpread s) t = outline_of_spread schema t s
  selection_step schema (opened.InlineFragment i) t =
      let u = at_inline schema t i.item.0 in node_with (Node.inline_fragment (record { item = i.item.0; span = i.span })) u (i.item.1 u)

  -- a selection: a field, a spread or an inline fragment
  unfoldable pub outline_of_selection : Catalog S C → Typing S C → Selection S → Outline S C
  outline_of_selection schema t s =
      para-Selection S (Below S C) (Below S C) (Below S C) (selection_step schema) (field_step schema)
      (inline_step schema) s t

  -- a selection set, at the types of what bears it
  abbrev pub outline_of_set : Catalog S C → Typing S C → List (Selection S) → Outline S C
  outline_of_set schema t set = node_with (Node.selection_set set) (at_set t) (each (outline_of_selection schema (at_set t)) set)

  abbrev pub outline_of_set_if_there : Catalog S C → Typing S C → Option (Vec (Selection S) Global) → Outline S C
  outline_of_set_if_there schema t set = if_there (λ s. outline_of_set schema t s.items) set

  -- in a field: arguments, directives, selection set
  abbrev pub outline_in_field : Catalog S C → Typing S C → Field S → Outline S C
  outline_in_field schema t f =
      beside (outline_of_arguments schema (field_arguments t.parent f.name.item.now) t f.arguments)
      (beside (outline_of_directives schema t f.directives) (outline_of_set_if_there schema t f.selection_set))

  -- a field, at the types of its selection set
  abbrev pub outline_of_field : Catalog S C → Typing S C → Placed (Field S) → Outline S C
  outline_of_field schema t f =
      let u = at_field schema t f.item in node_with (Node.field f) u (outline_in_field schema u f.item)

  abbrev pub outline_of_inline : Catalog S C → Typing S C → Placed (InlineFragment S) → Outline S C
  outline_of_inline schema t i =
      let u = at_inline schema t i.item in
      node_with (Node.inline_fragment i) u
      (beside (outline_of_directives schema u i.item.directives) (outline_of_set schema u i.item.selection_set.items))

  -- an operation: variable definitions, directives, selection set
  abbrev pub outline_of_operation : Catalog S C → Typing S C → Placed (Operation S) → Outline S C
  outline_of_operation schema t o =
      let u = at_operation schema t o.item in
      node_with (Node.operation_definition o) u
      (beside (outline_of_variable_definitions schema u o.item.variable_definitions)
      (beside (outline_of_directives schema u o.item.directives) (outline_of_set schema u o.item.selection_set.items)))

  -- a definition of a fragment: directives, selection set
  abbrev pub outline_of_fragment : Catalog S C → Typing S C → Placed (Fragment S) → Outline S C
  outline_of_fragment schema t f =
      let u = at_fragment schema t f.item in
      node_with (Node.fragment_definition f) u
      (beside (outline_of_directives schema u f.item.directives) (outline_of_set schema u f.item.selection_set.items))

  -- an operation or a fragment
  abbrev pub outline_of_definition : Catalog S C → Typing S C → Definition S → Outline S C
  outline_of_definition schema t (definition.Operation o) = outline_of_operation schema t o
  outline_of_definition schema t (definition.Fragment f) = outline_of_fragment schema t f

  -- a document, each of whose definitions stands at the types t
  abbrev pub outline_of_document : Catalog S C → Typing S C → List (Definition S) → Outline S C
  outline_of_document schema t doc = node_with (Node.document doc) t (each (outline_of_definition schema t) doc)
