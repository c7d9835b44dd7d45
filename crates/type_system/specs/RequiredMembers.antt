-- Required arguments and input fields that are deprecated (sections 3.6, 3.10 and 3.13).
use Rattle.std.specs.Prelude.{ℕ, List, ◌++◌, Bool, ◌&&◌, string_bytes}
use Rattle.std.specs.List.{flat_map}
use Rattle.meta.specs.declared.arguments.Argument.{Argument}
use Rattle.meta.specs.declared.fields.Field.{Field}
use Rattle.meta.specs.declared.kinds.MetaTypeOf.{MetaTypeOf}
use Rattle.meta.specs.Arguments.{arguments_of}
use Rattle.meta.specs.Deprecation.{is_deprecated_status}
use Rattle.meta.specs.Kinds.{fields_of, input_fields_of}
use Rattle.schema_validation.specs.declared.directives.DirectiveType.{DirectiveType}
use Rattle.type_system_report.specs.declared.fault.CoordinateOf.TheVariants as c
use Rattle.type_system_report.specs.declared.fault.FaultKindOf.TheVariants as k
use Rattle.type_system_report.specs.Fault.{FaultValue, fault_if}
use Rattle.type_system_interfaces.specs.Arguments.{is_required}
use Rattle.type_system_interfaces.specs.Members.{name_in}

module _ {S : Type 0} where
  -- non-null, with no default value, and deprecated
  abbrev pub is_required_deprecated : Argument S → Bool
  is_required_deprecated a = is_required a && is_deprecated_status a.deprecation_status

  -- such an argument of a field
  abbrev pub deprecated_argument : List ℕ → List ℕ → Argument S → List FaultValue
  deprecated_argument of field a = fault_if (is_required_deprecated a) (c.Argument of field (string_bytes a.name)) k.DeprecatedArgument

  -- those of a field
  abbrev pub deprecated_arguments : List ℕ → Field S → List FaultValue
  deprecated_arguments of f = flat_map (deprecated_argument of (string_bytes f.name)) (arguments_of f)

  -- such a field of an input object
  abbrev pub deprecated_input_field : List ℕ → Argument S → List FaultValue
  deprecated_input_field of a = fault_if (is_required_deprecated a) (c.Field of (string_bytes a.name)) k.DeprecatedInputField

  -- such an argument of a directive, and those of one
  abbrev pub deprecated_directive_argument : List ℕ → Argument S → List FaultValue
  deprecated_directive_argument of a =
      fault_if (is_required_deprecated a) (c.DirectiveArgument of (string_bytes a.name)) k.DeprecatedArgument

  abbrev pub deprecated_directive_arguments : DirectiveType S → List FaultValue
  deprecated_directive_arguments d = flat_map (deprecated_directive_argument (string_bytes d.name)) d.arguments.items

-- those of the members of a type
abbrev pub deprecated_members : {S C : Type 0} → MetaTypeOf S C → List FaultValue
deprecated_members t =
    flat_map (deprecated_arguments (name_in t)) (fields_of t)
    ++ flat_map (deprecated_input_field (name_in t)) (input_fields_of t)
