-- The names of the types that a type lists: of the members of a union, or of interfaces.
use Rattle.std.specs.Prelude.{ℕ, List, [], ◌++◌, if◌then◌else◌, map}
use Rattle.std.specs.List.{flat_map}
use Rattle.graphql_reader.specs.declared.type_system.TypeDefinition.{TypeDefinition}
use Rattle.sdl_own_faults.specs.Fault.{Written}
use Rattle.sdl_own_faults.specs.Parts.{extends, listed_by}

abbrev pub written_names : List Written → List (List ℕ)
written_names ws = map (λ w. w.item.now) ws

-- those of an extension, if it extends this definition
abbrev pub names_in : TypeDefinition → TypeDefinition → List (List ℕ)
names_in x e = if extends e x then written_names (listed_by e) else []

-- those of a definition, and of those of these extensions that extend it
abbrev pub listed_names : TypeDefinition → List TypeDefinition → List (List ℕ)
listed_names x listing = written_names (listed_by x) ++ flat_map (names_in x) listing
