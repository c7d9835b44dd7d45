-- What is wrong with a member of a definition or extension, whatever else defines or extends its type (section 3).
use Rattle.std.specs.Prelude.{ℕ, List, [], ◌++◌}
use Rattle.std.specs.List.{flat_map}
use Rattle.graphql_reader.specs.declared.type_system.FieldDefinition.{FieldDefinition}
use Rattle.graphql_reader.specs.declared.type_system.InputValueDefinition.{InputValueDefinition}
use Rattle.graphql_reader.specs.declared.type_system.TypeBody.{TypeBody}
use Rattle.graphql_reader.specs.declared.type_system.TypeBody.TheVariants as b
use Rattle.type_system_report.specs.declared.fault.CoordinateOf.TheVariants as c
use Rattle.type_system_report.specs.Fault.{CoordinateValue}
use Rattle.sdl_own_faults.specs.Fault.{PlacedFault}
use Rattle.sdl_own_faults.specs.RequiredMembers.{deprecated_parameter}
use Rattle.sdl_own_faults.specs.ReservedNames.{reserved_field, reserved_name, reserved_value}

-- the coordinate of the argument of this name of a field or a directive, or of the field of an input object
abbrev pub parameter_at : CoordinateValue → List ℕ → CoordinateValue
parameter_at (c.Type of) n = c.Field of n
parameter_at (c.Field of field) n = c.Argument of field n
parameter_at (c.Directive of) n = c.DirectiveArgument of n
parameter_at at n = at

-- an argument, or a field of an input object
abbrev pub parameter_faults : CoordinateValue → InputValueDefinition → List PlacedFault
parameter_faults of a =
    reserved_name a.name (parameter_at of a.name.item.now) ++ deprecated_parameter a (parameter_at of a.name.item.now)

-- a field with its arguments, of the type of this name
abbrev pub field_faults : List ℕ → FieldDefinition → List PlacedFault
field_faults of f = reserved_field of f ++ flat_map (parameter_faults (c.Field of f.name.item.now)) f.arguments.items

-- the members that are listed; a value named `true`, `false` or `null` is none in a text (section 3.9)
abbrev pub member_faults : List ℕ → TypeBody → List PlacedFault
member_faults of (b.Object fs) = flat_map (field_faults of) fs.items
member_faults of (b.Interface fs) = flat_map (field_faults of) fs.items
member_faults of (b.Enum vs) = flat_map (reserved_value of) vs.items
member_faults of (b.InputObject fs) = flat_map (parameter_faults (c.Type of)) fs.items
member_faults of b.Scalar = []
member_faults of (b.Union ns) = []
