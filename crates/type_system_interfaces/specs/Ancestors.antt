-- What a type must implement because an interface of it does (sections 3.6 and 3.7).
use Rattle.std.specs.Prelude.{ℕ, List, [], Option, Some, not, string_bytes, if◌then◌else◌}
use Rattle.std.specs.List.{flat_map}
use Rattle.std.specs.Str.{bytes_eq}
use Rattle.language_types.specs.Names.{is_among}
use Rattle.meta.specs.declared.kinds.MetaTypeOf.{MetaTypeOf}
use Rattle.meta.specs.declared.kinds.MetaTypeOf.TheVariants as m
use Rattle.schema.specs.Catalog.{Catalog, type_in}
use Rattle.schema_validation.specs.Names.{interfaces_of}
use Rattle.type_system_report.specs.declared.fault.CoordinateOf.TheVariants as c
use Rattle.type_system_report.specs.declared.fault.FaultKindOf.TheVariants as k
use Rattle.type_system_report.specs.Fault.{FaultValue, KindValue, fault_if}
use Rattle.type_system_interfaces.specs.Entries.{each_entry}
use Rattle.type_system_interfaces.specs.Members.{name_in}

module _ {S C : Type 0} (t : MetaTypeOf S C) where
  -- the type does not name this interface of its interface j: it is the type itself, or it is missing
  abbrev pub unnamed : List ℕ → List ℕ → KindValue
  unnamed j i = if bytes_eq (name_in t) i then k.CircularInterface j else k.MissingAncestor i j

  -- an interface of its interface j, if the type does not name it
  abbrev pub wrong_ancestor : List ℕ → List ℕ → List FaultValue
  wrong_ancestor j i = fault_if (not (is_among (interfaces_of t) i)) (c.Type (name_in t)) (unnamed j i)

  -- the interfaces of an interface of this name
  abbrev pub wrong_ancestors_by : List ℕ → Option (MetaTypeOf S C) → List FaultValue
  wrong_ancestors_by j (Some (m.Interface x)) = flat_map (λ i. wrong_ancestor j (string_bytes i)) x.interface_names.items
  wrong_ancestors_by j _ = []

  -- those of the interface of the name, unless it is also one of those after it
  abbrev pub wrong_ancestors_at : Catalog S C → List ℕ → List (List ℕ) → List FaultValue
  wrong_ancestors_at schema n ns = if is_among ns n then [] else wrong_ancestors_by n (type_in n schema)

  -- those of the interfaces of the type
  abbrev pub wrong_ancestors : Catalog S C → List FaultValue
  wrong_ancestors schema = each_entry (wrong_ancestors_at schema) (interfaces_of t)
