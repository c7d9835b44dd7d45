-- An event as a value.
use Rattle.std.specs.Prelude.{string_bytes}
use Rattle.std.specs.Option.{option_copied, option_map}
use Rattle.language_types.specs.Types.{borrowed_shape}
use Rattle.events.specs.declared.event.Event.{Event}
use Rattle.events.specs.declared.event.Event.TheVariants as event
use Rattle.events.specs.declared.typed_events.TypesOf.{TypesOf}
use Rattle.events.specs.Node
use Rattle.events.specs.Typing.{Typing}
use Rattle.events.specs.TypedEvent.{entering, leaving, TypedEvent}

module _ {S C : Type 0} where
  -- an event with the types at its node
  abbrev pub typed_event : Event S → Typing S C → TypedEvent S C
  typed_event (event.EnterDocument d) t = record { side = entering; node = Node.document d.now; types = t }
  typed_event (event.ExitDocument d) t = record { side = leaving; node = Node.document d.now; types = t }
  typed_event (event.EnterOperationDefinition o) t = record { side = entering; node = Node.operation_definition o.now; types = t }
  typed_event (event.ExitOperationDefinition o) t = record { side = leaving; node = Node.operation_definition o.now; types = t }
  typed_event (event.EnterFragmentDefinition f) t = record { side = entering; node = Node.fragment_definition f.now; types = t }
  typed_event (event.ExitFragmentDefinition f) t = record { side = leaving; node = Node.fragment_definition f.now; types = t }
  typed_event (event.EnterVariableDefinition v) t = record { side = entering; node = Node.variable_definition v.now; types = t }
  typed_event (event.ExitVariableDefinition v) t = record { side = leaving; node = Node.variable_definition v.now; types = t }
  typed_event (event.EnterDirective d) t = record { side = entering; node = Node.directive d.now; types = t }
  typed_event (event.ExitDirective d) t = record { side = leaving; node = Node.directive d.now; types = t }
  typed_event (event.EnterArgument a) t = record { side = entering; node = Node.argument a.now; types = t }
  typed_event (event.ExitArgument a) t = record { side = leaving; node = Node.argument a.now; types = t }
  typed_event (event.EnterSelectionSet s) t = record { side = entering; node = Node.selection_set s.now; types = t }
  typed_event (event.ExitSelectionSet s) t = record { side = leaving; node = Node.selection_set s.now; types = t }
  typed_event (event.EnterField f) t = record { side = entering; node = Node.field f.now; types = t }
  typed_event (event.ExitField f) t = record { side = leaving; node = Node.field f.now; types = t }
  typed_event (event.EnterFragmentSpread s) t = record { side = entering; node = Node.fragment_spread s.now; types = t }
  typed_event (event.ExitFragmentSpread s) t = record { side = leaving; node = Node.fragment_spread s.now; types = t }
  typed_event (event.EnterInlineFragment i) t = record { side = entering; node = Node.inline_fragment i.now; types = t }
  typed_event (event.ExitInlineFragment i) t = record { side = leaving; node = Node.inline_fragment i.now; types = t }
  typed_event (event.EnterNullValue p) t = record { side = entering; node = Node.null_value p.now; types = t }
  typed_event (event.ExitNullValue p) t = record { side = leaving; node = Node.null_value p.now; types = t }
  typed_event (event.EnterScalarValue v) t =
      record { side = entering; node = Node.scalar_value (record { item = v.item.now; span = v.span.now }); types = t }
  typed_event (event.ExitScalarValue v) t =
      record { side = leaving; node = Node.scalar_value (record { item = v.item.now; span = v.span.now }); types = t }
  typed_event (event.EnterEnumValue v) t =
      record {
        side = entering;
        node = Node.enum_value (record { item = string_bytes v.item.now; span = v.span.now });
        types = t;
      }
  typed_event (event.ExitEnumValue v) t =
      record {
        side = leaving;
        node = Node.enum_value (record { item = string_bytes v.item.now; span = v.span.now });
        types = t;
      }
  typed_event (event.EnterVariableValue v) t =
      record {
        side = entering;
        node = Node.variable_value
            (record { item = string_bytes v.item.now; span = v.span.now });
        types = t;
      }
  typed_event (event.ExitVariableValue v) t =
      record {
        side = leaving;
        node = Node.variable_value
            (record { item = string_bytes v.item.now; span = v.span.now });
        types = t;
      }
  typed_event (event.EnterListValue v) t =
      record {
        side = entering;
        node = Node.list_value (record { item = v.item.now.items; span = v.span.now });
        types = t;
      }
  typed_event (event.ExitListValue v) t =
      record {
        side = leaving;
        node = Node.list_value (record { item = v.item.now.items; span = v.span.now });
        types = t;
      }
  typed_event (event.EnterObjectValue v) t =
      record {
        side = entering;
        node = Node.object_value (record { item = v.item.now.items; span = v.span.now });
        types = t;
      }
  typed_event (event.ExitObjectValue v) t =
      record {
        side = leaving;
        node = Node.object_value (record { item = v.item.now.items; span = v.span.now });
        types = t;
      }
  typed_event (event.EnterObjectField k v) t =
      record {
        side = entering;
        node = Node.object_field
            (record { item = k.item.now; span = k.span.now }, record { item = v.item.now; span = v.span.now });
        types =
            t;
      }
  typed_event (event.ExitObjectField k v) t =
      record {
        side = leaving;
        node = Node.object_field
            (record { item = k.item.now; span = k.span.now }, record { item = v.item.now; span = v.span.now });
        types =
            t;
      }

  -- types that are borrowed from the schema, as values
  abbrev pub typing_of : TypesOf S C → Typing S C
  typing_of t =
      record {
        current = option_copied t.current;
        literal = option_map borrowed_shape t.literal;
        parent = option_copied t.parent;
        input = option_map borrowed_shape t.input;
      }
