-- Objects, interfaces and input objects without a field, enums without a value, unions without a member (sections 3.6
-- to 3.10).
use Rattle.std.specs.Prelude.{List, Bool, false, not, ◌&&◌, ◌||◌, ◌==◌, codes, length}
use Rattle.std.specs.List.{list_all}
use Rattle.std.specs.Str.{bytes_eq}
use Rattle.graphql_reader.specs.declared.type_system.FieldDefinition.{FieldDefinition}
use Rattle.graphql_reader.specs.declared.type_system.TypeBody.{TypeBody}
use Rattle.graphql_reader.specs.declared.type_system.TypeBody.TheVariants as b
use Rattle.graphql_reader.specs.declared.type_system.TypeDefinition.{TypeDefinition}
use Rattle.type_system_report.specs.declared.fault.CoordinateOf.TheVariants as c
use Rattle.type_system_report.specs.declared.fault.FaultKindOf.TheVariants as k
use Rattle.type_system_report.specs.Fault.{KindValue}
use Rattle.sdl_own_faults.specs.Fault.{PlacedFault, fault_if}
use Rattle.sdl_own_faults.specs.Parts.{extends}

-- each is `__typename`, which every object and interface has
abbrev pub are_typenames : List FieldDefinition → Bool
are_typenames fs = list_all (λ f. bytes_eq f.name.item.now (codes "__typename")) fs

-- a type of this kind lists members, and there is none
abbrev pub lacks_members : TypeBody → Bool
lacks_members (b.Object fs) = are_typenames fs.items
lacks_members (b.Interface fs) = are_typenames fs.items
lacks_members (b.Union ns) = length ns.items == 0
lacks_members (b.Enum vs) = length vs.items == 0
lacks_members (b.InputObject fs) = length fs.items == 0
lacks_members b.Scalar = false

-- an extension is none of this definition, or adds no member; all of these are so
abbrev pub adds_none : TypeDefinition → TypeDefinition → Bool
adds_none x e = not (extends e x) || lacks_members e.body

abbrev pub add_none : TypeDefinition → List TypeDefinition → Bool
add_none x extensions = list_all (adds_none x) extensions

-- what is missing then
abbrev pub missing_kind : TypeBody → KindValue
missing_kind (b.Union ns) = k.NoMembers
missing_kind (b.Enum vs) = k.NoValues
missing_kind _ = k.NoFields

-- a type, if it lacks members and none of these extensions adds one
abbrev pub missing_members : TypeDefinition → List TypeDefinition → List PlacedFault
missing_members x extensions =
    fault_if (lacks_members x.body && add_none x extensions) x.name (c.Type x.name.item.now) (missing_kind x.body)
