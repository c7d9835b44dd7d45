-- The node of each part of a document that a cursor enters or leaves.
use Rattle.std.specs.Prelude.{string_bytes}
use Rattle.language_types.specs.declared.position.Span.{Span}
use Rattle.language.specs.declared.tree.Definition.{Definition}
use Rattle.language.specs.declared.tree.Definition.TheVariants as definition
use Rattle.language.specs.declared.tree.Selection.{Selection, out-Selection}
use Rattle.language.specs.declared.tree.Selection.TheOpen as opened
use Rattle.language.specs.declared.tree.Field.{Field}
use Rattle.language.specs.declared.tree.InlineFragment.{InlineFragment}
use Rattle.language_values.specs.declared.value.InputValue.{InputValue, out-InputValue}
use Rattle.language_values.specs.declared.value.InputValue.TheOpen as opened_value
use Rattle.schema.specs.Catalog.{Catalog}
use Rattle.events.specs.declared.cursor.Part.{Part}
use Rattle.events.specs.declared.cursor.Part.TheVariants as part
use Rattle.events.specs.declared.cursor.Place.{Place}
use Rattle.events.specs.declared.cursor.Place.TheVariants as place
use Rattle.events.specs.Node.{Node, Placed}
use Rattle.events.specs.Typing.{Typing, at_items}
use Rattle.events.specs.Outline.{Outline, empty, each, outline_of_value, outline_of_object_field}
use Rattle.events.specs.TypedEvent.{TypedEvent, entering, leaving}

module _ {S : Type 0} where
  -- a value, by its outermost level
  abbrev pub node_of_level : opened_value.InputValue-F S (InputValue S) → Span → Node S
  node_of_level opened_value.Null p = Node.null_value p
  node_of_level (opened_value.Scalar s) p = Node.scalar_value (record { item = s; span = p })
  node_of_level (opened_value.Enum s) p = Node.enum_value (record { item = string_bytes s; span = p })
  node_of_level (opened_value.Variable s) p = Node.variable_value (record { item = string_bytes s; span = p })
  node_of_level (opened_value.List vs) p = Node.list_value (record { item = vs.items; span = p })
  node_of_level (opened_value.Object es) p = Node.object_value (record { item = es.items; span = p })

  abbrev pub node_of_value : Placed (InputValue S) → Node S
  node_of_value v = node_of_level (out-InputValue S v.item) v.span

  -- a selection, by its outermost level
  abbrev pub node_of_layer : opened.Selection-F S (Selection S) (Field S) (InlineFragment S) → Node S
  node_of_layer (opened.Field f) = Node.field f
  node_of_layer (opened.FragmentSpread s) = Node.fragment_spread s
  node_of_layer (opened.InlineFragment i) = Node.inline_fragment i

  abbrev pub node_of_selection : Selection S → Node S
  node_of_selection s = node_of_layer (out-Selection S s)

  abbrev pub node_of_definition : Definition S → Node S
  node_of_definition (definition.Operation o) = Node.operation_definition o
  node_of_definition (definition.Fragment f) = Node.fragment_definition f

  abbrev pub node_of_place : Place S → Node S
  node_of_place (place.Operation o) = Node.operation_definition o.now
  node_of_place (place.Fragment f) = Node.fragment_definition f.now
  node_of_place (place.Variable v) = Node.variable_definition v.now
  node_of_place (place.Directive d) = Node.directive d.now
  node_of_place (place.Argument a) = Node.argument a.now
  node_of_place (place.Set s) = Node.selection_set s.now
  node_of_place (place.Field f) = Node.field f.now
  node_of_place (place.Spread s) = Node.fragment_spread s.now
  node_of_place (place.Inline i) = Node.inline_fragment i.now
  node_of_place (place.Value v) = node_of_value v.now
  node_of_place (place.Entry e) = Node.object_field e.now

module _ {S C : Type 0} where
  -- what stands in a value, by its outermost level
  abbrev pub inside_level : Catalog S C → Typing S C → opened_value.InputValue-F S (InputValue S) → Outline S C
  inside_level schema t opened_value.Null = empty
  inside_level schema t (opened_value.Scalar s) = empty
  inside_level schema t (opened_value.Enum s) = empty
  inside_level schema t (opened_value.Variable s) = empty
  inside_level schema t (opened_value.List vs) = each (outline_of_value schema (at_items t)) vs.items
  inside_level schema t (opened_value.Object es) = each (outline_of_object_field schema t) es.items

  abbrev pub inside_value : Catalog S C → Typing S C → InputValue S → Outline S C
  inside_value schema t v = inside_level schema t (out-InputValue S v)

  -- a node is entered, or left, at its types
  abbrev pub entered : Node S → Typing S C → TypedEvent S C
  entered n t = record { side = entering; node = n; types = t }

  abbrev pub left : Node S → Typing S C → TypedEvent S C
  left n t = record { side = leaving; node = n; types = t }

  -- the first event of a part, at the types of its node
  abbrev pub first_of : Part S → Typing S C → TypedEvent S C
  first_of (part.Exit p) t = left (node_of_place p) t
  first_of (part.Definitions d ds) t = entered (node_of_definition d.now) t
  first_of (part.Variables d ds) t = entered (Node.variable_definition d.now) t
  first_of (part.Directives d ds) t = entered (Node.directive d.now) t
  first_of (part.Arguments known a rest) t = entered (Node.argument a.now) t
  first_of (part.Set set) t = entered (Node.selection_set set.now) t
  first_of (part.Selections s ss) t = entered (node_of_selection s.now) t
  first_of (part.Value v) t = entered (node_of_value v.now) t
  first_of (part.Items v vs) t = entered (node_of_value v.now) t
  first_of (part.Entries e es) t = entered (Node.object_field e.now) t
