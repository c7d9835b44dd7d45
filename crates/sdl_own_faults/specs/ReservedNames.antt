-- Names that begin with `__`, but for those of introspection (sections 3.3 and 3.4).
use Rattle.std.specs.Prelude.{ℕ, List, [], Bool, ◌||◌, codes, if◌then◌else◌}
use Rattle.std.specs.Str.{bytes_eq}
use Rattle.graphql_reader.specs.declared.type_system.EnumValueDefinition.{EnumValueDefinition}
use Rattle.graphql_reader.specs.declared.type_system.FieldDefinition.{FieldDefinition}
use Rattle.graphql_reader.specs.declared.type_system.TypeDefinition.{TypeDefinition}
use Rattle.type_system.specs.Introspected.{is_introspection_type, is_reserved}
use Rattle.type_system_report.specs.declared.fault.CoordinateOf.TheVariants as c
use Rattle.type_system_report.specs.declared.fault.FaultKindOf.TheVariants as k
use Rattle.type_system_report.specs.Fault.{CoordinateValue}
use Rattle.sdl_own_faults.specs.Fault.{PlacedFault, Written, fault_if}

-- a name at a coordinate, if it is reserved
abbrev pub reserved_name : Written → CoordinateValue → List PlacedFault
reserved_name w at = fault_if (is_reserved w.item.now) w at k.ReservedName

-- that of a value of the enum of this name
abbrev pub reserved_value : List ℕ → EnumValueDefinition → List PlacedFault
reserved_value of v = reserved_name v.name (c.EnumValue of v.name.item.now)

-- that of a type
abbrev pub reserved_type : TypeDefinition → List PlacedFault
reserved_type x = if is_introspection_type x.name.item.now then [] else reserved_name x.name (c.Type x.name.item.now)

-- `__typename`, and those of which the query root alone has two
abbrev pub is_introspection_field : List ℕ → Bool
is_introspection_field n =
    bytes_eq n (codes "__typename") || bytes_eq n (codes "__schema") || bytes_eq n (codes "__type")

-- that of a field of the type of this name
abbrev pub reserved_field : List ℕ → FieldDefinition → List PlacedFault
reserved_field of f =
    if is_introspection_field f.name.item.now then [] else reserved_name f.name (c.Field of f.name.item.now)
