-- The names of a document's fragments, as they are kept.
use Rattle.std.specs.Prelude.{ℕ, Bool, List, [], ◌∷◌, length, ◌≡◌, Option, None, Some, slice_get}
use Rattle.std.specs.List.{flat_map}
use Rattle.std.specs.Option.{unwrap_or}
pub use Rattle.language_types.specs.Names.{is_among}
use Rattle.language.specs.declared.tree.Definition.{Definition}
use Rattle.language.specs.declared.tree.Definition.TheVariants as definition
use Rattle.fragment_graph.specs.declared.numbers.NumberedNames.{NumberedNames}
use Rattle.fragment_graph.specs.declared.numbers.Numbers.{Numbers}
use Rattle.fragment_graph.specs.Numbers.{names_of, number_of}

-- The name of a fragment; an operation has none of that kind.
abbrev pub fragment_name : {S : Type 0} → Definition S → List (List ℕ)
fragment_name (definition.Operation o) = []
fragment_name (definition.Fragment f) = f.item.name.item.now ∷ []

-- The names of the document's fragments, in its order, with repeats.
abbrev pub fragment_names : {S : Type 0} → List (Definition S) → List (List ℕ)
fragment_names document = flat_map fragment_name document

-- The name of a number.
abbrev pub name_of_number : Numbers → Option ℕ → List (List ℕ)
name_of_number n None = []
name_of_number n (Some k) = unwrap_or (slice_get (names_of n) k) [] ∷ []

-- The names of the definitions, by their numbers.
abbrev pub defined_names : NumberedNames → List (List ℕ)
defined_names names = flat_map (name_of_number names.numbers) names.defined.items

abbrev pub is_kept : NumberedNames → List ℕ → Bool
is_kept names name = is_among (defined_names names) name

-- The copy has the same names, with the same numbers.
pub record IsCopy (names copy : NumberedNames) : Type 0 where
  pub numbers : (name : List ℕ) → number_of copy.numbers name ≡ number_of names.numbers name
  pub same : names_of copy.numbers ≡ names_of names.numbers
  pub defined : copy.defined.items ≡ names.defined.items

-- The number is that of the definition's name, and none for an operation.
abbrev pub IsNumberOf : {S : Type 0} → Numbers → Option ℕ → Definition S → Type 0
IsNumberOf n None (definition.Operation o) = Unit {0}
IsNumberOf n None (definition.Fragment f) = ⊥
IsNumberOf n (Some k) (definition.Operation o) = ⊥
IsNumberOf n (Some k) (definition.Fragment f) = slice_get (names_of n) k ≡ Some f.item.name.item.now

-- Each definition has the number of its name.
pub record AreNumbersOf {S : Type 0} (n : Numbers) (defined : List (Option ℕ)) (document : List (Definition S)) : Type 0 where
  pub sized : length defined ≡ length document
  pub each : (i : ℕ) (o : Option ℕ) (d : Definition S) → slice_get defined i ≡ Some o → slice_get document i ≡ Some d → IsNumberOf n o d
