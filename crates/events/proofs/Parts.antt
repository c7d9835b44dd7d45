-- A part as its first node and what comes after that.
use Rattle.std.proofs.Common.{◌≡◌, List, ◌∷◌, ◌++◌, Option, Some, None, refl, ap, sym, ◌∙◌}
use Rattle.std.specs.Prelude.{Vec}
use Rattle.std.specs.Option.{option_copied}
use Rattle.std.specs.declared.alloc.Global.{Global}
use Rattle.schema.specs.Catalog.{Catalog}
use Rattle.events.specs.declared.cursor.Part.{Part}
use Rattle.events.specs.declared.cursor.Part.TheVariants as part
use Rattle.events.specs.declared.cursor.Frame.{Frame}
use Rattle.events.specs.declared.cursor.EventCursorOf.{EventCursorOf}
use Rattle.events.specs.declared.event.Event.{Event}
use Rattle.events.specs.Typing.{Typing}
use Rattle.events.specs.Outline.{outline_of_value, outline_of_object_field, outline_of_argument, outline_of_directive}
use Rattle.events.specs.Outline.{outline_of_variable_definition, outline_of_selection, outline_of_definition}
use Rattle.events.specs.TypedEvent.{TypedEvent}
use Rattle.events.specs.EventValue.{typed_event}
use Rattle.events.specs.Cursor.{part_events, node_events, rest_events, stack_events, events_left, IsFirst, IsNextLeft}
use Rattle.events.proofs.Events.{first_of_each}

module _ {S C : Type 0} (schema : Catalog S C) where
  pub node_and_rest : (p : Part S) (t : Typing S C) (l : List (TypedEvent S C))
      → node_events schema p t ++ (rest_events schema p t ++ l) ≡ part_events schema p t ++ l
  node_and_rest (part.Exit p) t l = refl
  node_and_rest (part.Definitions d ds) t l = first_of_each (outline_of_definition schema t) d.now ds.now l _ _ refl refl
  node_and_rest (part.Variables d ds) t l = first_of_each (outline_of_variable_definition schema t) d.now ds.now l _ _ refl refl
  node_and_rest (part.Directives d ds) t l = first_of_each (outline_of_directive schema t) d.now ds.now l _ _ refl refl
  node_and_rest (part.Arguments known a rest) t l = first_of_each (outline_of_argument schema
      (option_copied known) t) a.now rest.now l _ _ refl refl
  node_and_rest (part.Set set) t l = refl
  node_and_rest (part.Selections s ss) t l = first_of_each (outline_of_selection schema t) s.now ss.now l _ _ refl refl
  node_and_rest (part.Value v) t l = refl
  node_and_rest (part.Items v vs) t l = first_of_each (outline_of_value schema t) v.now vs.now l _ _ refl refl
  node_and_rest (part.Entries e es) t l = first_of_each (outline_of_object_field schema t) e.now es.now l _ _ refl refl

  -- the first event of what was on a stack is the next one
  pub next_left : (found : Option (Event S)) (t : Typing S C) (popped pushed : Vec (Frame S C) Global) (events : List (TypedEvent S C)) (old new : EventCursorOf S C)
      → events_left old ≡ events ++ stack_events schema popped.items
      → events_left new ≡ stack_events schema pushed.items
      → IsFirst schema found t popped pushed events
      → IsNextLeft found t old new
  next_left None t popped pushed events old new p q h = absurd h
  next_left (Some e) t popped pushed events old new p q h = p ∙ sym h ∙ ap (λ z. typed_event e t ∷ z) (sym q)
