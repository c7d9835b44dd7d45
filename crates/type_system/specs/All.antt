-- Faults of a type system, in their order (section 3).
use Rattle.std.specs.Prelude.{List, ◌++◌}
use Rattle.std.specs.List.{flat_map}
use Rattle.meta.specs.declared.kinds.MetaTypeOf.{MetaTypeOf}
use Rattle.schema_validation.specs.declared.directives.DirectiveType.{DirectiveType}
use Rattle.schema.specs.Catalog.{Catalog}
use Rattle.type_system_report.specs.Fault.{FaultValue}
use Rattle.type_system_interfaces.specs.All.{interface_faults}
use Rattle.type_system.specs.OutputTypes.{wrong_output_types}
use Rattle.type_system.specs.RequiredMembers.{deprecated_directive_arguments, deprecated_members}
use Rattle.type_system.specs.ReservedNames.{reserved_directive, reserved_names}
use Rattle.type_system.specs.ReservedValues.{reserved_values}
use Rattle.type_system.specs.RootTypes.{shared_roots}
use Rattle.type_system.specs.SomeFields.{missing_fields}
use Rattle.type_system.specs.SomeLocations.{missing_locations}
use Rattle.type_system.specs.SomeMembers.{missing_members}
use Rattle.type_system.specs.SomeValues.{missing_values}
use Rattle.type_system.specs.UniqueMembers.{repeated_members}

-- members of a union that stand twice, values of an enum that are no names of values, and required members that are
-- deprecated
abbrev pub member_faults : {S C : Type 0} → MetaTypeOf S C → List FaultValue
member_faults t = repeated_members t ++ reserved_values t ++ deprecated_members t

module _ {S C : Type 0} (schema : Catalog S C) where
  -- names that are reserved, and members that are missing
  abbrev pub own_faults : MetaTypeOf S C → List FaultValue
  own_faults t = reserved_names schema t ++ missing_fields schema t ++ missing_values t ++ missing_members t

  -- the faults of a type
  abbrev pub type_faults : MetaTypeOf S C → List FaultValue
  type_faults t = own_faults t ++ wrong_output_types schema t ++ interface_faults schema t ++ member_faults t

  -- those of the roots, and then those of each type in the order of the schema
  abbrev pub all_faults : List FaultValue
  all_faults = shared_roots schema ++ flat_map type_faults schema.types

-- those of a directive
abbrev pub directive_faults : {S : Type 0} → DirectiveType S → List FaultValue
directive_faults d = reserved_directive d ++ missing_locations d ++ deprecated_directive_arguments d
