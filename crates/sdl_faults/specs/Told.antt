-- What is told of faults: their places and their texts.
use Rattle.std.specs.Prelude.{◌≡◌, ℕ, List, ◌∷◌, [], ◌++◌, Option, Some, IfSome, map, string_bytes}
use Rattle.std.specs.List.{flat_map}
use Rattle.std.specs.Option.{option_map_or, option_to_list}
use Rattle.graphql_reader.specs.declared.type_system.TypeSystemDefinition.{TypeSystemDefinition}
use Rattle.language_types.specs.declared.position.SourcePosition.{SourcePosition}
use Rattle.language_types.specs.Position.{index_of}
use Rattle.sdl_directive_circles.specs.declared.circles.DirectiveCircle.{DirectiveCircle}
use Rattle.sdl_directive_circles.specs.Circles.{circle_text}
use Rattle.sdl_directive_values.specs.Faults.{ValueFaultAt, value_fault_text}
use Rattle.sdl_directives.specs.Fault as uses
use Rattle.sdl_directives.specs.Texts.{kind_text}
use Rattle.type_system_report.specs.declared.fault.CoordinateOf.TheVariants as c
use Rattle.type_system_report.specs.Fault.{CoordinateValue, FaultValue}
use Rattle.type_system_report.specs.Texts.{fault_text}
use Rattle.type_system_defaults.specs.Faults.{DefaultFaultValue, default_fault_text}
use Rattle.type_system_inputs.specs.declared.circles.InputCircle.{InputCircle}
use Rattle.type_system_inputs.specs.declared.circles.RequiredField.{RequiredField}
use Rattle.type_system_inputs.specs.Told as inputs
use Rattle.sdl_own_faults.specs.Fault.{PlacedFault}
use Rattle.sdl_faults.specs.declared.located.LocatedFault.{LocatedFault}
use Rattle.sdl_places.specs.Places.{place_in}

-- the place of a fault, if it has one, its further places, and its text
pub record ToldFault : Type 0 where
  pub position : Option SourcePosition
  pub others : List SourcePosition
  pub message : List ℕ

abbrev pub told_value : LocatedFault → ToldFault
told_value f = record { position = f.position; others = f.others.items; message = string_bytes f.message }

abbrev pub told_values : List LocatedFault → List ToldFault
told_values = map told_value

-- the index of the place; 0 without one
abbrev pub place_index : LocatedFault → ℕ
place_index f = option_map_or index_of f.position 0

-- a fault with these places was appended, and with this text where that is known
pub record Tells (position : Option SourcePosition) (others : List SourcePosition) (said : Option (List ℕ))
    (old new : List LocatedFault) : Type 0 where
  pub fault : LocatedFault
  pub position_is : fault.position ≡ position
  pub others_are : fault.others.items ≡ others
  pub message_is : IfSome said (λ message. string_bytes fault.message ≡ message)
  pub all : new ≡ old ++ fault ∷ []

-- faults of which this holds were appended
pub record Adds (P : List ToldFault → Type 0) (old new : List LocatedFault) : Type 0 where
  pub more : List ToldFault
  pub told : P more
  pub all : told_values new ≡ told_values old ++ more

-- a text at one place
abbrev pub told_there : Option SourcePosition → List ℕ → ToldFault
told_there position message = record { position = position; others = []; message = message }

module _ (document : List TypeSystemDefinition) where
  -- a text at the place of a coordinate in the document
  abbrev pub told_at : CoordinateValue → List ℕ → ToldFault
  told_at at message = told_there (place_in document at) message

  -- a fault of a type or a directive, and that of a default value
  abbrev pub told_fault : FaultValue → ToldFault
  told_fault f = told_at f.coordinate (fault_text f)

  abbrev pub told_default : DefaultFaultValue → ToldFault
  told_default f = told_at f.coordinate (default_fault_text f)

  -- where a field is
  abbrev pub field_place : RequiredField → Option SourcePosition
  field_place f = place_in document (c.Field f.of.now f.name.now)

  abbrev pub field_places : RequiredField → List SourcePosition
  field_places f = option_to_list (field_place f)

  -- a circle of input objects at its first field, and further at the others
  abbrev pub told_circle : InputCircle → ToldFault
  told_circle x = record { position = field_place x.first; others = flat_map field_places x.others.items; message = inputs.circle_text x }

-- a fault that hangs on no other definition
abbrev pub told_own : PlacedFault → ToldFault
told_own f = told_there (Some f.position) (fault_text f.fault)

-- a fault of a directive where it stands, that of a value of its argument, and a directive that refers to itself
abbrev pub told_use : uses.FaultValue → ToldFault
told_use f = told_there (Some f.position) (kind_text f.fault)

abbrev pub told_given : ValueFaultAt → ToldFault
told_given f = told_there (Some f.position) (value_fault_text f)

abbrev pub told_directive_circle : DirectiveCircle → ToldFault
told_directive_circle x = told_there (Some x.position) (circle_text x)
