-- Names that begin with `__`, but for those of introspection (sections 3.3 and 3.4).
use Rattle.std.specs.Prelude.{ℕ, List, [], ◌++◌, string_bytes, if◌then◌else◌}
use Rattle.std.specs.List.{flat_map}
use Rattle.meta.specs.declared.arguments.Argument.{Argument}
use Rattle.meta.specs.declared.enum_values.EnumValue.{EnumValue}
use Rattle.meta.specs.declared.fields.Field.{Field}
use Rattle.meta.specs.declared.kinds.MetaTypeOf.{MetaTypeOf}
use Rattle.meta.specs.Arguments.{arguments_of}
use Rattle.meta.specs.Kinds.{fields_of, input_fields_of}
use Rattle.schema_validation.specs.declared.directives.DirectiveType.{DirectiveType}
use Rattle.schema.specs.Catalog.{Catalog}
use Rattle.type_system_report.specs.declared.fault.CoordinateOf.TheVariants as c
use Rattle.type_system_report.specs.declared.fault.FaultKindOf.TheVariants as k
use Rattle.type_system_report.specs.Fault.{CoordinateValue, FaultValue, fault_if, last_name}
use Rattle.type_system.specs.Introspected.{is_introspection_field, is_introspection_type, is_reserved}
use Rattle.type_system_interfaces.specs.Members.{name_in, values_of}

-- the last name of a coordinate, if it is reserved
abbrev pub reserved_name : CoordinateValue → List FaultValue
reserved_name at = fault_if (is_reserved (last_name at)) at k.ReservedName

-- the name of a value of an enum
abbrev pub reserved_value : List ℕ → EnumValue → List FaultValue
reserved_value of v = reserved_name (c.EnumValue of (string_bytes v.name))

module _ {S : Type 0} where
  -- the name of a field of an input object
  abbrev pub reserved_input_field : List ℕ → Argument S → List FaultValue
  reserved_input_field of f = reserved_name (c.Field of (string_bytes f.name))

  -- the name of an argument of a field
  abbrev pub reserved_argument : List ℕ → List ℕ → Argument S → List FaultValue
  reserved_argument of field a = reserved_name (c.Argument of field (string_bytes a.name))

  -- the name of an argument of a directive
  abbrev pub reserved_directive_argument : List ℕ → Argument S → List FaultValue
  reserved_directive_argument of a = reserved_name (c.DirectiveArgument of (string_bytes a.name))

  -- the names of a directive and its arguments
  abbrev pub reserved_directive : DirectiveType S → List FaultValue
  reserved_directive d =
      reserved_name (c.Directive (string_bytes d.name))
      ++ flat_map (reserved_directive_argument (string_bytes d.name)) d.arguments.items

module _ {S C : Type 0} (schema : Catalog S C) where
  -- the names of a field and its arguments
  abbrev pub reserved_field : List ℕ → Field S → List FaultValue
  reserved_field of f =
      (if is_introspection_field schema of (string_bytes f.name) then [] else reserved_name
      (c.Field of (string_bytes f.name))) ++ flat_map (reserved_argument of (string_bytes f.name)) (arguments_of f)

  -- the name of a type
  abbrev pub reserved_type : List ℕ → List FaultValue
  reserved_type of = if is_introspection_type of then [] else reserved_name (c.Type of)

  -- the names of a type and its members
  abbrev pub reserved_names : MetaTypeOf S C → List FaultValue
  reserved_names t =
      reserved_type (name_in t) ++ flat_map (reserved_field (name_in t)) (fields_of t)
      ++ flat_map (reserved_input_field (name_in t)) (input_fields_of t)
      ++ flat_map (reserved_value (name_in t)) (values_of t)
