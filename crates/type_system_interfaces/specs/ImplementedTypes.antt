-- What a type implements that it may not (sections 3.6 and 3.7).
use Rattle.std.specs.Prelude.{ℕ, List, ◌++◌, Bool, true, false, not, ◌&&◌}
use Rattle.std.specs.Option.{option_map_or}
use Rattle.std.specs.Str.{bytes_eq}
use Rattle.language_types.specs.Names.{is_among}
use Rattle.meta.specs.declared.kinds.MetaTypeOf.{MetaTypeOf}
use Rattle.meta.specs.declared.kinds.MetaTypeOf.TheVariants as m
use Rattle.schema.specs.Catalog.{Catalog, type_in}
use Rattle.schema_validation.specs.Names.{interfaces_of}
use Rattle.type_system_report.specs.declared.fault.CoordinateOf.TheVariants as c
use Rattle.type_system_report.specs.declared.fault.FaultKindOf.TheVariants as k
use Rattle.type_system_interfaces.specs.Entries.{each_entry}
use Rattle.type_system_report.specs.Fault.{FaultValue, fault_if}
use Rattle.type_system_interfaces.specs.Members.{name_in}

module _ {S C : Type 0} where
  abbrev pub is_interface : MetaTypeOf S C → Bool
  is_interface (m.Interface x) = true
  is_interface _ = false

  -- the type of this name is an interface
  abbrev pub is_interface_named : Catalog S C → List ℕ → Bool
  is_interface_named schema n = option_map_or is_interface (type_in n schema) false

  -- an entry that is no interface
  abbrev pub no_interface : Catalog S C → MetaTypeOf S C → List ℕ → List FaultValue
  no_interface schema t n = fault_if (not (is_interface_named schema n)) (c.Type (name_in t)) (k.NotInterface n)

  -- an entry that is also one of those after it
  abbrev pub implemented_again : MetaTypeOf S C → List ℕ → List (List ℕ) → List FaultValue
  implemented_again t n ns = fault_if (is_among ns n) (c.Type (name_in t)) (k.RepeatedInterface n)

  -- an entry of an interface that is this interface
  abbrev pub own_interface : MetaTypeOf S C → List ℕ → List FaultValue
  own_interface t n = fault_if (is_interface t && bytes_eq (name_in t) n) (c.Type (name_in t)) k.OwnInterface

  -- an entry, with those after it
  abbrev pub wrong_entry : Catalog S C → MetaTypeOf S C → List ℕ → List (List ℕ) → List FaultValue
  wrong_entry schema t n ns = no_interface schema t n ++ implemented_again t n ns ++ own_interface t n

  -- the entries of a type
  abbrev pub wrong_interfaces : Catalog S C → MetaTypeOf S C → List FaultValue
  wrong_interfaces schema t = each_entry (wrong_entry schema t) (interfaces_of t)
