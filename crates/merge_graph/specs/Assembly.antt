-- How the graph of a document is put together.
use Rattle.std.specs.Prelude.{◌≡◌, ◌<◌, ◌≤◌, ℕ, List, [], Option, Some, length, get_or, slice_get, true}
use Rattle.std.specs.List.{Contains, flat_map}
use Rattle.language.specs.declared.tree.Definition.{Definition}
use Rattle.schema.specs.Catalog.{Catalog}
use Rattle.fragment_graph.specs.declared.cycles.DocumentCycles.{DocumentCycles}
use Rattle.fragment_graph.specs.DocumentCycles.{SearchedDocument}
use Rattle.merge_set_table.specs.Once.{is_among}
use Rattle.merge_set_table.specs.Table.{numbered, Extends}
use Rattle.merge_graph.specs.declared.building.Building.{Building}
use Rattle.merge_graph.specs.Definitions.{IsLast}
use Rattle.merge_graph.specs.Building.{stretch_of, order_at, IsFree, AreSetsAt, Built}

-- The search found no cycle, so its order has each fragment behind those that it spreads.
pub record AreRanked {S : Type 0} (document : List (Definition S)) (c : DocumentCycles) : Type 0 where
  pub searched : SearchedDocument document c
  pub clean : c.outcome.reports.items ≡ []

-- Each fragment that has a number has a set.
abbrev pub KnowsAll : (List ℕ → Option ℕ) → List ℕ → Type 0
KnowsAll numbers fragments = (name : List ℕ) (g : ℕ) → numbers name ≡ Some g → g < length fragments

module _ {S C : Type 0} where
  -- The set of each fragment stands at some place.
  abbrev pub AreInPlaces : Building S C → Type 0
  AreInPlaces b = (g : ℕ) → g < length b.fragments.items → (p : ℕ) × (is_among (order_at b p) (get_or b.fragments.items g 0) ≡ true)

  -- The orders of the places, one behind the other.
  abbrev pub joined_order : Building S C → List ℕ
  joined_order b = flat_map (stretch_of b.order.items) b.stretches.items

  -- The place of each fragment whose set isn't there yet is free.
  abbrev pub AreFree : List (Definition S) → (List ℕ → Option ℕ) → Building S C → Type 0
  AreFree document numbers b =
      (name : List ℕ) (g place : ℕ) → numbers name ≡ Some g → length b.fragments.items ≤ g → IsLast document name place
      → IsFree place b

  -- The sets of the definition at the place are there.
  abbrev pub HasSetAt : Catalog S C → List (Definition S) → (List ℕ → Option ℕ) → ℕ → Building S C → Type 0
  HasSetAt schema document numbers place b = (d : Definition S) → slice_get document place ≡ Some d → AreSetsAt schema numbers place d b

  -- The sets of the definition at the place are there now.
  pub record AddsMissing (schema : Catalog S C) (document : List (Definition S)) (numbers : List ℕ → Option ℕ)
      (place : ℕ) (b b' : Building S C) : Type 0 where
    pub built : Built schema document numbers b'
    pub extends : Extends (numbered b.table) (numbered b'.table)
    pub fragments : b'.fragments.items ≡ b.fragments.items
    pub kept : (p k : ℕ) → is_among (order_at b p) k ≡ true → is_among (order_at b' p) k ≡ true
    pub has : HasSetAt schema document numbers place b'

  -- The sets of the definitions before the place are there now.
  pub record AddsOthers (schema : Catalog S C) (document : List (Definition S)) (numbers : List ℕ → Option ℕ)
      (place : ℕ) (b b' : Building S C) : Type 0 where
    pub built : Built schema document numbers b'
    pub fragments : b'.fragments.items ≡ b.fragments.items
    pub has : (p : ℕ) → p < place → HasSetAt schema document numbers p b'

  -- All sets of the document are there.
  pub record IsComplete (schema : Catalog S C) (document : List (Definition S)) (numbers : List ℕ → Option ℕ)
      (b : Building S C) : Type 0 where
    pub built : Built schema document numbers b
    pub all : KnowsAll numbers b.fragments.items
    pub has : (d : Definition S) → Contains document d → (p : ℕ) × AreSetsAt schema numbers p d b
