-- The graph of references, by numbers: its nodes are the definitions of a document. Each name has the place of its
-- first definition or extension, and an edge leads from there to the place of each name to which one of them refers.
use Rattle.std.specs.Prelude.{◌≡◌, ◌<◌, ◌⊎◌, ℕ, List, [], ◌∷◌, Option, None, Some, length, slice_get}
use Rattle.std.specs.List.{Contains, flat_map}
use Rattle.std.specs.Option.{option_map_or}
use Rattle.graphql_reader.specs.declared.type_system.TypeSystemDefinition.{TypeSystemDefinition}
use Rattle.name_tables.specs.Maps.{value_of}
use Rattle.type_system_circles.specs.declared.graph.Link.{Link}
use Rattle.type_system_circles.specs.declared.graph.Node.{Node}
use Rattle.type_system_circles.specs.Graph.{Stands}
use Rattle.sdl_directive_circles.specs.declared.graph.References.{References}
use Rattle.sdl_directive_circles.specs.declared.names.NameOf.TheVariants as n
use Rattle.sdl_directive_circles.specs.declared.places.Places.{Places}
use Rattle.sdl_directive_circles.specs.Circles.{told_name}
use Rattle.sdl_directive_circles.specs.Uses.{Name, defined_name, uses_of}

-- the place of a name
abbrev pub place_of : Places → Name → Option ℕ
place_of places (n.Directive x) = value_of places.directives x
place_of places (n.Type x) = value_of places.types x

-- that of what is defined or extended
abbrev pub place_by : Places → Option Name → Option ℕ
place_by places None = None
place_by places (Some a) = place_of places a

-- a definition or an extension of this name is at this place
abbrev pub IsAt : List TypeSystemDefinition → Name → ℕ → Type 0
IsAt document a v = (x : TypeSystemDefinition) × (slice_get document v ≡ Some x) × (defined_name x ≡ Some a)

-- The names that a document defines or extends have places.
pub record HasPlaces (document : List TypeSystemDefinition) (places : Places) : Type 0 where
  pub real : (a : Name) (v : ℕ) → place_of places a ≡ Some v → IsAt document a v
  pub whole : (a : Name) (v : ℕ) → IsAt document a v → (w : ℕ) × (place_of places a ≡ Some w)

-- The name has a place, and this one if it had none; no other changed.
pub record IsNotedAt (a : Name) (place : ℕ) (old new : Places) : Type 0 where
  pub real : (b : Name) (v : ℕ) → place_of new b ≡ Some v → (place_of old b ≡ Some v) ⊎ ((v ≡ place) × (b ≡ a))
  pub kept : (b : Name) (v : ℕ) → place_of old b ≡ Some v → place_of new b ≡ Some v
  pub noted : (v : ℕ) × (place_of new a ≡ Some v)

-- without a name nothing is noted
abbrev pub IsNoted : Option Name → ℕ → Places → Places → Type 0
IsNoted None place old new = new ≡ old
IsNoted (Some a) place old new = IsNotedAt a place old new

-- all places are numbers of this many nodes
abbrev pub AreWithin : Places → ℕ → Type 0
AreWithin places count = (a : Name) (v : ℕ) → place_of places a ≡ Some v → v < count

abbrev pub link : ℕ → ℕ → Link
link v w = record { from = v; edge = record { target = w; field = 0 } }

-- the link from the one place to the other, if there are both
abbrev pub links_between : Option ℕ → Option ℕ → List Link
links_between (Some v) (Some w) = link v w ∷ []
links_between _ _ = []

-- the links of a definition or an extension
abbrev pub links_of : Places → TypeSystemDefinition → List Link
links_of places x = flat_map (λ u. links_between (place_by places (defined_name x)) (place_of places u)) (uses_of x)

-- no node has an edge
pub record AreBare (count : ℕ) (nodes : List Node) : Type 0 where
  pub sized : length nodes ≡ count
  pub none : (l : Link) → Stands nodes l → ⊥

-- These links were added, and no others.
pub record AddsLinks (more : List Link) (old new : List Node) : Type 0 where
  pub sized : length new ≡ length old
  pub real : (l : Link) → Stands new l → Stands old l ⊎ Contains more l
  pub kept : (l : Link) → Stands old l → Stands new l
  pub whole : (l : Link) → Contains more l → Stands new l

-- The graph has these places and links.
pub record HasReferences (document : List TypeSystemDefinition) (r : References) : Type 0 where
  pub places : HasPlaces document r.places
  pub sized : length r.nodes.items ≡ length document
  pub real : (l : Link) → Stands r.nodes.items l → Contains (flat_map (links_of r.places) document) l
  pub whole : (l : Link) → Contains (flat_map (links_of r.places) document) l → Stands r.nodes.items l

-- the name of a directive that is defined
abbrev pub definition_told : TypeSystemDefinition → List (List ℕ)
definition_told x = option_map_or told_name (defined_name x) []

-- that of the one to whose place a link leads
abbrev pub link_told : List TypeSystemDefinition → Link → List (List ℕ)
link_told document l = option_map_or definition_told (slice_get document l.edge.target) []
