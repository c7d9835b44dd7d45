-- What a type lists that it may not: interfaces and members of a union twice, an interface itself (sections 3.6 to
-- 3.8).
use Rattle.std.specs.Prelude.{ℕ, List, [], ◌++◌, Bool, true, false, ◌&&◌}
use Rattle.std.specs.Str.{bytes_eq}
use Rattle.graphql_reader.specs.declared.type_system.TypeBody.{TypeBody}
use Rattle.graphql_reader.specs.declared.type_system.TypeBody.TheVariants as b
use Rattle.graphql_reader.specs.declared.type_system.TypeDefinition.{TypeDefinition}
use Rattle.language_types.specs.Names.{is_among}
use Rattle.sdl_directives.specs.Earlier.{each_after}
use Rattle.type_system_report.specs.declared.fault.CoordinateOf.TheVariants as c
use Rattle.type_system_report.specs.declared.fault.FaultKindOf.TheVariants as k
use Rattle.type_system_report.specs.Fault.{KindValue}
use Rattle.sdl_own_faults.specs.Fault.{PlacedFault, fault_if}
use Rattle.sdl_own_faults.specs.Names.{listed_names}

abbrev pub is_interface : TypeBody → Bool
is_interface (b.Interface fs) = true
is_interface _ = false

-- what it is that a type of this kind lists this name twice
abbrev pub repeated_kind : TypeBody → List ℕ → KindValue
repeated_kind (b.Union ns) n = k.RepeatedMember n
repeated_kind _ n = k.RepeatedInterface n

module _ (x : TypeDefinition) where
  -- an entry that is also one of those before it
  abbrev pub listed_again : List (List ℕ) → List ℕ → List PlacedFault
  listed_again before n = fault_if (is_among before n) x.name (c.Type x.name.item.now) (repeated_kind x.body n)

  -- an entry of an interface that is this interface
  abbrev pub own_interface : List ℕ → List PlacedFault
  own_interface n =
      fault_if (is_interface x.body && bytes_eq x.name.item.now n) x.name (c.Type x.name.item.now) k.OwnInterface

  -- an entry, with those before it
  abbrev pub wrong_entry : List (List ℕ) → List ℕ → List PlacedFault
  wrong_entry before n = listed_again before n ++ own_interface n

  -- the entries of a type and of those of these extensions that extend it
  abbrev pub wrong_entries : List TypeDefinition → List PlacedFault
  wrong_entries listing = each_after wrong_entry [] (listed_names x listing)
