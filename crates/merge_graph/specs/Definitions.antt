-- The definitions of a document: the set of each, the type around it, and the last of a name.
use Rattle.std.specs.Prelude.{◌≡◌, ◌≤◌, ℕ, List, length, Bool, true, false, Option, Some, None, slice_get, slice_set}
use Rattle.std.specs.Prelude.{option_and_then}
use Rattle.std.specs.List.{filter}
use Rattle.language.specs.declared.tree.Selection.{Selection}
use Rattle.language.specs.declared.tree.Definition.{Definition}
use Rattle.language.specs.declared.tree.Definition.TheVariants as definition
use Rattle.meta.specs.declared.kinds.MetaTypeOf.{MetaTypeOf}
use Rattle.schema.specs.Catalog.{Catalog, type_in, root_type}
use Rattle.fragment_graph.specs.declared.numbers.Numbers.{Numbers}
use Rattle.fragment_graph.specs.Numbers.{number_of, IsNamed, Defines}

module _ {S C : Type 0} where
  -- the type around a definition's set: the root of its kind, or the type of its condition, where they are known
  abbrev pub type_round : Catalog S C → Definition S → Option (MetaTypeOf S C)
  type_round schema (definition.Operation o) = root_type schema o.item.operation_type
  type_round schema (definition.Fragment f) = type_in f.item.type_condition.item.now schema

module _ {S : Type 0} where
  -- the selection set of a definition
  abbrev pub selections_of : Definition S → List (Selection S)
  selections_of (definition.Operation o) = o.item.selection_set.items
  selections_of (definition.Fragment f) = f.item.selection_set.items

  abbrev pub is_fragment : Definition S → Bool
  is_fragment (definition.Operation o) = false
  is_fragment (definition.Fragment f) = true

  -- how many definitions of fragments there are
  abbrev pub fragment_count : List (Definition S) → ℕ
  fragment_count document = length (filter is_fragment document)

  -- The last definition of a fragment stands at the place.
  pub record IsLast (document : List (Definition S)) (name : List ℕ) (place : ℕ) : Type 0 where
    pub is : Definition S
    pub stands : slice_get document place ≡ Some is
    pub named : IsNamed name is
    pub last : (k : ℕ) (d : Definition S) → slice_get document k ≡ Some d → IsNamed name d → k ≤ place

  -- Each fragment has the place of its last definition, and there are no others.
  pub record AreLast (document : List (Definition S)) (place_of : List ℕ → Option ℕ) : Type 0 where
    pub each : (name : List ℕ) (place : ℕ) → place_of name ≡ Some place → IsLast document name place
    pub none_other : (name : List ℕ) → place_of name ≡ None → Defines document name → ⊥

-- The place that is kept for a name, at its number.
abbrev pub last_place : Numbers → List (Option ℕ) → List ℕ → Option ℕ
last_place n places name = option_and_then (λ k. option_and_then (λ o. o) (slice_get places k)) (number_of n name)

-- The number, if there is one, has the place now.
abbrev pub noted : Option ℕ → ℕ → List (Option ℕ) → List (Option ℕ)
noted None place places = places
noted (Some k) place places = slice_set places k (Some place)
