-- The events that a cursor still has to give.
use Rattle.std.specs.Prelude.{◌≡◌, List, [], ◌∷◌, ◌++◌, Option, Some, None}
use Rattle.std.specs.Option.{option_copied}
use Rattle.std.specs.declared.vec.Vec.{Vec}
use Rattle.std.specs.declared.alloc.Global.{Global}
use Rattle.schema.specs.Catalog.{Catalog}
use Rattle.events.specs.declared.cursor.Part.{Part}
use Rattle.events.specs.declared.cursor.Part.TheVariants as part
use Rattle.events.specs.declared.cursor.Frame.{Frame}
use Rattle.events.specs.declared.cursor.EventCursorOf.{EventCursorOf}
use Rattle.events.specs.declared.event.Event.{Event}
use Rattle.events.specs.declared.typed_events.TypesOf.{TypesOf}
use Rattle.events.specs.Typing.{Typing}
use Rattle.events.specs.Outline.{each, outline_of_value, outline_of_object_field, outline_of_argument}
use Rattle.events.specs.Outline.{outline_of_directive, outline_of_variable_definition, outline_of_set}
use Rattle.events.specs.Outline.{outline_of_selection, outline_of_definition}
use Rattle.events.specs.TypedEvent.{TypedEvent, events_of}
use Rattle.events.specs.EventValue.{typed_event, typing_of}
use Rattle.events.specs.Place.{node_of_place, left}

module _ {S C : Type 0} (schema : Catalog S C) where
  -- the events of a part, at the types around it
  abbrev pub part_events : Part S → Typing S C → List (TypedEvent S C)
  part_events (part.Exit p) t = left (node_of_place p) t ∷ []
  part_events (part.Definitions d ds) t = events_of (each (outline_of_definition schema t) (d.now ∷ ds.now))
  part_events (part.Variables d ds) t = events_of (each (outline_of_variable_definition schema t) (d.now ∷ ds.now))
  part_events (part.Directives d ds) t = events_of (each (outline_of_directive schema t) (d.now ∷ ds.now))
  part_events (part.Arguments known a rest) t = events_of (each (outline_of_argument schema (option_copied known) t) (a.now ∷ rest.now))
  part_events (part.Set set) t = events_of (outline_of_set schema t set.now)
  part_events (part.Selections s ss) t = events_of (each (outline_of_selection schema t) (s.now ∷ ss.now))
  part_events (part.Value v) t = events_of (outline_of_value schema t v.now)
  part_events (part.Items v vs) t = events_of (each (outline_of_value schema t) (v.now ∷ vs.now))
  part_events (part.Entries e es) t = events_of (each (outline_of_object_field schema t) (e.now ∷ es.now))

  -- those of its first node, and of what comes after that
  abbrev pub node_events : Part S → Typing S C → List (TypedEvent S C)
  node_events (part.Exit p) t = left (node_of_place p) t ∷ []
  node_events (part.Definitions d ds) t = events_of (outline_of_definition schema t d.now)
  node_events (part.Variables d ds) t = events_of (outline_of_variable_definition schema t d.now)
  node_events (part.Directives d ds) t = events_of (outline_of_directive schema t d.now)
  node_events (part.Arguments known a rest) t = events_of (outline_of_argument schema (option_copied known) t a.now)
  node_events (part.Set set) t = events_of (outline_of_set schema t set.now)
  node_events (part.Selections s ss) t = events_of (outline_of_selection schema t s.now)
  node_events (part.Value v) t = events_of (outline_of_value schema t v.now)
  node_events (part.Items v vs) t = events_of (outline_of_value schema t v.now)
  node_events (part.Entries e es) t = events_of (outline_of_object_field schema t e.now)

  abbrev pub rest_events : Part S → Typing S C → List (TypedEvent S C)
  rest_events (part.Exit p) t = []
  rest_events (part.Definitions d ds) t = events_of (each (outline_of_definition schema t) ds.now)
  rest_events (part.Variables d ds) t = events_of (each (outline_of_variable_definition schema t) ds.now)
  rest_events (part.Directives d ds) t = events_of (each (outline_of_directive schema t) ds.now)
  rest_events (part.Arguments known a rest) t = events_of (each (outline_of_argument schema (option_copied known) t) rest.now)
  rest_events (part.Set set) t = []
  rest_events (part.Selections s ss) t = events_of (each (outline_of_selection schema t) ss.now)
  rest_events (part.Value v) t = []
  rest_events (part.Items v vs) t = events_of (each (outline_of_value schema t) vs.now)
  rest_events (part.Entries e es) t = events_of (each (outline_of_object_field schema t) es.now)

  abbrev pub frame_events : Frame S C → List (TypedEvent S C)
  frame_events f = part_events f.part (typing_of f.types)

  -- the events of a stack, from its last frame to its first
  abbrev pub stack_events : List (Frame S C) → List (TypedEvent S C)
  stack_events [] = []
  stack_events (f ∷ fs) = stack_events fs ++ frame_events f

module _ {S C : Type 0} where
  -- these events have come in front of those of a stack
  abbrev pub Pushes : Vec (Frame S C) Global → Vec (Frame S C) Global → (Catalog S C → List (TypedEvent S C)) → Type 0
  Pushes old new events = (schema : Catalog S C) → stack_events schema new.items ≡ events schema ++ stack_events schema old.items

  -- the first of these events is this one at these types, and the others have come in front of those of a stack
  abbrev pub EntersIn : Catalog S C → (Typing S C → TypedEvent S C) → TypesOf S C → Vec (Frame S C) Global → Vec (Frame S C) Global
      → List (TypedEvent S C) → Type 0
  EntersIn schema first types old new events =
      first (typing_of types) ∷ stack_events schema new.items ≡ events ++ stack_events schema old.items

  -- the same in each schema
  abbrev pub Enters : (Typing S C → TypedEvent S C) → TypesOf S C → Vec (Frame S C) Global → Vec (Frame S C) Global
      → (Catalog S C → List (TypedEvent S C)) → Type 0
  Enters first types old new events = (schema : Catalog S C) → EntersIn schema first types old new (events schema)

  -- nothing where a stack is empty, and else its last part, without which it is left then
  abbrev pub IsPopped : Option (Part S) → Typing S C → Vec (Frame S C) Global → Vec (Frame S C) Global → Type 0
  IsPopped None t old new =
      (schema : Catalog S C) → (stack_events schema old.items ≡ []) × (stack_events schema new.items ≡ [])
  IsPopped (Some p) t old new =
      (schema : Catalog S C) → stack_events schema old.items ≡ part_events schema p t ++ stack_events schema new.items

  -- the first of these events, at these types, where the others have come in front of those of a stack
  abbrev pub IsFirst : Catalog S C → Option (Event S) → Typing S C → Vec (Frame S C) Global → Vec (Frame S C) Global
      → List (TypedEvent S C) → Type 0
  IsFirst schema None t old new events = ⊥
  IsFirst schema (Some e) t old new events =
      typed_event e t ∷ stack_events schema new.items ≡ events ++ stack_events schema old.items

  -- what is left of a walk
  abbrev pub events_left : EventCursorOf S C → List (TypedEvent S C)
  events_left c = stack_events c.schema.now c.frames.items

  -- nothing where nothing is left, and else the first of what is left, at these types, without which it is left then
  abbrev pub IsNextLeft : Option (Event S) → Typing S C → EventCursorOf S C → EventCursorOf S C → Type 0
  IsNextLeft None t old new = (events_left old ≡ []) × (events_left new ≡ [])
  IsNextLeft (Some e) t old new = events_left old ≡ typed_event e t ∷ events_left new
