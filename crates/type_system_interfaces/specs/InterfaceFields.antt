-- Fields of interfaces that a type does not meet (sections 3.6 and 3.7).
use Rattle.std.specs.Prelude.{ℕ, List, [], ◌∷◌, ◌++◌, Option, Some, None, codes, string_bytes, if◌then◌else◌}
use Rattle.std.specs.List.{flat_map}
use Rattle.std.specs.Str.{bytes_eq}
use Rattle.language_types.specs.Names.{is_among}
use Rattle.meta.specs.declared.fields.Field.{Field}
use Rattle.meta.specs.declared.kinds.MetaTypeOf.{MetaTypeOf}
use Rattle.meta.specs.declared.kinds.MetaTypeOf.TheVariants as m
use Rattle.meta.specs.Kinds.{field_named}
use Rattle.schema.specs.Catalog.{Catalog, type_in}
use Rattle.schema_validation.specs.Names.{interfaces_of}
use Rattle.type_system_report.specs.declared.fault.CoordinateOf.TheVariants as c
use Rattle.type_system_report.specs.declared.fault.FaultKindOf.TheVariants as k
use Rattle.type_system_interfaces.specs.AddedArguments.{added_arguments}
use Rattle.type_system_interfaces.specs.Entries.{each_entry}
use Rattle.type_system_report.specs.Fault.{FaultValue}
use Rattle.type_system_interfaces.specs.FieldTypes.{wrong_field_type}
use Rattle.type_system_interfaces.specs.InterfaceArguments.{unmet_arguments}
use Rattle.type_system_interfaces.specs.Members.{name_in}
use Rattle.type_system_interfaces.specs.Pair.{PairValue}

-- the field of a type beside that of an interface
abbrev pub unmet_pair : {S C : Type 0} → Catalog S C → PairValue S → List FaultValue
unmet_pair schema p = wrong_field_type schema p ++ unmet_arguments p ++ added_arguments p

module _ {S C : Type 0} (schema : Catalog S C) (t : MetaTypeOf S C) where
  -- a field of the interface of this name, beside the type's field of its name
  abbrev pub unmet_by : List ℕ → Field S → Option (Field S) → List FaultValue
  unmet_by interface g None =
      record { coordinate = c.Type (name_in t); kind = k.MissingField (c.Field interface (string_bytes g.name)) } ∷ []
  unmet_by interface g (Some f) = unmet_pair schema (record { of = name_in t; given = f; interface = interface; wanted = g })

  -- a field of the interface of this name, other than `__typename`, which each type has
  abbrev pub unmet_field : List ℕ → Field S → List FaultValue
  unmet_field interface g =
      if bytes_eq (string_bytes g.name) (codes "__typename") then [] else unmet_by interface g (field_named (string_bytes g.name) t)

  -- the fields of an interface
  abbrev pub unmet_named : Option (MetaTypeOf S C) → List FaultValue
  unmet_named (Some (m.Interface x)) = flat_map (unmet_field (string_bytes x.name)) x.fields.items
  unmet_named _ = []

  -- those of the interface of the name, unless it is also one of those after it
  abbrev pub unmet_entry : List ℕ → List (List ℕ) → List FaultValue
  unmet_entry n ns = if is_among ns n then [] else unmet_named (type_in n schema)

  -- those of the interfaces of the type
  abbrev pub unmet_interfaces : List FaultValue
  unmet_interfaces = each_entry unmet_entry (interfaces_of t)
