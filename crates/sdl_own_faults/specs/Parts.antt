-- Extensions of types, and which of them extend a definition (section 3.4.3).
use Rattle.std.specs.Prelude.{List, [], ◌∷◌, Bool, true, false, ◌&&◌, ◌==◌, if◌then◌else◌, length, map}
use Rattle.std.specs.List.{flat_map}
use Rattle.std.specs.Str.{bytes_eq}
use Rattle.graphql_reader.specs.declared.type_system.TypeBody.{TypeBody}
use Rattle.graphql_reader.specs.declared.type_system.TypeBody.TheVariants as b
use Rattle.graphql_reader.specs.declared.type_system.TypeDefinition.{TypeDefinition}
use Rattle.graphql_reader.specs.declared.type_system.TypeSystemDefinition.{TypeSystemDefinition}
use Rattle.graphql_reader.specs.declared.type_system.TypeSystemDefinition.TheVariants as d
use Rattle.sdl_own_faults.specs.declared.parts.Part.{Part}
use Rattle.sdl_own_faults.specs.Fault.{Written}

-- the definitions and extensions of these parts
abbrev pub definitions_of : List Part → List TypeDefinition
definitions_of ps = map (λ p. p.definition.now) ps

-- the extensions of types in a document
abbrev pub extension_in : TypeSystemDefinition → List TypeDefinition
extension_in (d.Type x) = if x.item.is_extension then x.item ∷ [] else []
extension_in _ = []

abbrev pub extensions_in : List TypeSystemDefinition → List TypeDefinition
extensions_in document = flat_map extension_in document

abbrev pub is_same_kind : TypeBody → TypeBody → Bool
is_same_kind b.Scalar b.Scalar = true
is_same_kind (b.Object fs) (b.Object gs) = true
is_same_kind (b.Interface fs) (b.Interface gs) = true
is_same_kind (b.Union ns) (b.Union ms) = true
is_same_kind (b.Enum vs) (b.Enum ws) = true
is_same_kind (b.InputObject fs) (b.InputObject gs) = true
is_same_kind _ _ = false

-- one of the name and the kind of a definition
abbrev pub extends : TypeDefinition → TypeDefinition → Bool
extends e x = bytes_eq e.name.item.now x.name.item.now && is_same_kind e.body x.body

-- the types that a definition or extension lists: the members of a union, or interfaces
abbrev pub listed_of : List Written → TypeBody → List Written
listed_of interfaces (b.Union ns) = ns.items
listed_of interfaces _ = interfaces

abbrev pub listed_by : TypeDefinition → List Written
listed_by x = listed_of x.interfaces.items x.body

-- those of these extensions that list some
abbrev pub listing_of : TypeDefinition → List TypeDefinition
listing_of e = if length (listed_by e) == 0 then [] else e ∷ []

abbrev pub listing_in : List TypeDefinition → List TypeDefinition
listing_in extensions = flat_map listing_of extensions
