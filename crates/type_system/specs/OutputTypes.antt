-- Fields whose type is no output type (sections 3.4.2, 3.6 and 3.7).
use Rattle.std.specs.Prelude.{ℕ, List, Bool, true, false, string_bytes}
use Rattle.std.specs.List.{flat_map}
use Rattle.std.specs.Option.{option_map_or}
use Rattle.language_types.specs.Types.{shape}
use Rattle.meta.specs.declared.fields.Field.{Field}
use Rattle.meta.specs.declared.kinds.MetaTypeOf.{MetaTypeOf}
use Rattle.meta.specs.declared.kinds.MetaTypeOf.TheVariants as m
use Rattle.meta.specs.Kinds.{fields_of}
use Rattle.schema.specs.Catalog.{Catalog, type_in}
use Rattle.type_system_report.specs.declared.fault.CoordinateOf.TheVariants as c
use Rattle.type_system_report.specs.declared.fault.FaultKindOf.TheVariants as k
use Rattle.type_system_report.specs.Fault.{FaultValue, fault_if}
use Rattle.type_system_interfaces.specs.Members.{name_in}

module _ {S C : Type 0} where
  -- an input object, the only kind that is no output type
  abbrev pub is_input_object : MetaTypeOf S C → Bool
  is_input_object (m.InputObject x) = true
  is_input_object _ = false

  -- the type of this name is one
  abbrev pub is_input_object_named : Catalog S C → List ℕ → Bool
  is_input_object_named schema n = option_map_or is_input_object (type_in n schema) false

  -- a field of the type of this name, if its type is one, whatever its modifiers
  abbrev pub wrong_output_type : Catalog S C → List ℕ → Field S → List FaultValue
  wrong_output_type schema of f =
      fault_if (is_input_object_named schema (shape f.field_type).name) (c.Field of (string_bytes f.name))
      (k.NotOutputType (shape f.field_type))

  -- those fields of a type
  abbrev pub wrong_output_types : Catalog S C → MetaTypeOf S C → List FaultValue
  wrong_output_types schema t = flat_map (wrong_output_type schema (name_in t)) (fields_of t)
