-- Objects, interfaces and input objects without a field (sections 3.6, 3.7 and 3.10).
use Rattle.std.specs.Prelude.{ℕ, List, Bool, false, ◌==◌, length, string_bytes}
use Rattle.std.specs.List.{list_all}
use Rattle.meta.specs.declared.fields.Field.{Field}
use Rattle.meta.specs.declared.kinds.MetaTypeOf.{MetaTypeOf}
use Rattle.meta.specs.declared.kinds.MetaTypeOf.TheVariants as m
use Rattle.schema.specs.Catalog.{Catalog}
use Rattle.type_system_report.specs.declared.fault.CoordinateOf.TheVariants as c
use Rattle.type_system_report.specs.declared.fault.FaultKindOf.TheVariants as k
use Rattle.type_system_report.specs.Fault.{FaultValue, fault_if}
use Rattle.type_system.specs.Introspected.{is_introspection_field}
use Rattle.type_system_interfaces.specs.Members.{name_in}

module _ {S C : Type 0} (schema : Catalog S C) where
  -- all fields of the type of this name are those of introspection
  abbrev pub are_introspections : List ℕ → List (Field S) → Bool
  are_introspections of fields = list_all (λ f. is_introspection_field schema of (string_bytes f.name)) fields

  -- a type that needs a field, and defines none
  abbrev pub has_no_fields : MetaTypeOf S C → Bool
  has_no_fields (m.Object x) = are_introspections (string_bytes x.name) x.fields.items
  has_no_fields (m.Interface x) = are_introspections (string_bytes x.name) x.fields.items
  has_no_fields (m.InputObject x) = length x.input_fields.items == 0
  has_no_fields _ = false

  -- the type, if it is one
  abbrev pub missing_fields : MetaTypeOf S C → List FaultValue
  missing_fields t = fault_if (has_no_fields t) (c.Type (name_in t)) k.NoFields
