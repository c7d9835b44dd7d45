-- The names of a document's fragments, by number.
use Rattle.std.specs.Prelude.{ℕ, List, map, ◌≡◌, ◌↔◌, Option, None, Some, slice_get}
use Rattle.std.specs.List.{Contains}
use Rattle.name_tables.specs.declared.map.NameMap.{NameMap}
use Rattle.name_tables.specs.Maps.{entries_of, index_of}
use Rattle.name_tables.specs.Adding.{Adds}
pub use Rattle.name_tables.specs.Adding.{or_else}
use Rattle.language.specs.declared.tree.Definition.{Definition}
use Rattle.language.specs.declared.tree.Definition.TheVariants as definition
use Rattle.fragment_graph.specs.declared.numbers.Numbers.{Numbers}

unfoldable pub number_of : Numbers → List ℕ → Option ℕ
number_of n name = index_of n.map.value name

abbrev pub names_of : Numbers → List (List ℕ)
names_of n = map (λ e. e.0.now) (entries_of n.map.value)

-- The name of a fragment is there, with the next index if it was not; an operation adds none.
abbrev pub AddsDefinition : {S : Type 0} → Definition S → NameMap (Unit {0}) → NameMap (Unit {0}) → Type 0
AddsDefinition (definition.Operation o) old new = new ≡ old
AddsDefinition (definition.Fragment f) old new = Adds f.item.name.item tt old new

-- The index of a fragment's name; an operation has none.
abbrev pub defined_index : {S : Type 0} → NameMap (Unit {0}) → Definition S → Option ℕ
defined_index m (definition.Operation o) = None
defined_index m (definition.Fragment f) = index_of m f.item.name.item.now

abbrev pub HasNumber : Numbers → List ℕ → Type 0
HasNumber n name = (k : ℕ) × (number_of n name ≡ Some k)

-- A name's number is its place among the names.
abbrev pub WellNumbered : Numbers → Type 0
WellNumbered n = (name : List ℕ) (k : ℕ) → (number_of n name ≡ Some k) ↔ (slice_get (names_of n) k ≡ Some name)

-- The definition is of a fragment of this name.
abbrev pub IsNamed : {S : Type 0} → List ℕ → Definition S → Type 0
IsNamed name (definition.Operation o) = ⊥
IsNamed name (definition.Fragment f) = f.item.name.item.now ≡ name

-- Some fragment's definition has the name.
abbrev pub Defines : {S : Type 0} → List (Definition S) → List ℕ → Type 0
Defines {S} document name = (d : Definition S) × Contains document d × IsNamed name d

-- The names of the document's fragments have numbers, and no others.
pub record NumbersOf {S : Type 0} (document : List (Definition S)) (n : Numbers) : Type 0 where
  pub numbered : WellNumbered n
  pub defined : (name : List ℕ) → HasNumber n name ↔ Defines document name

-- The number of a fragment's name; an operation has none.
abbrev pub defined_number : {S : Type 0} → Numbers → Definition S → Option ℕ
defined_number n (definition.Operation o) = None
defined_number n (definition.Fragment f) = number_of n f.item.name.item.now

-- The names are numbered, and so is each definition.
pub record NumberedDefinitions {S : Type 0} (document : List (Definition S)) (n : Numbers) (defined : List (Option ℕ)) : Type 0 where
  pub numbers : NumbersOf document n
  pub each : defined ≡ map (defined_number n) document
