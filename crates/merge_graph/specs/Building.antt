-- How the sets of a document are added, definition by definition.
use Rattle.std.specs.Prelude.{◌≡◌, ◌<◌, ◌≤◌, ◌+◌, ℕ, List, [], ◌∷◌, ◌++◌, map, Option, Some, None, length, get_or}
use Rattle.std.specs.Prelude.{slice_get, slice_set, slice_range, true, option_and_then}
use Rattle.std.specs.List.{flat_map, sum_by}
use Rattle.std.specs.declared.vec.Vec.{Vec}
use Rattle.std.specs.declared.alloc.Global.{Global}
use Rattle.language.specs.declared.tree.Definition.{Definition}
use Rattle.language.specs.declared.tree.Selection.{Selection}
use Rattle.meta.specs.declared.kinds.MetaTypeOf.{MetaTypeOf}
use Rattle.schema.specs.Catalog.{Catalog}
use Rattle.merge_field_pairs.specs.Entries.{PlainEntry, plain}
use Rattle.fragment_graph.specs.declared.cycles.DocumentCycles.{DocumentCycles}
use Rattle.fragment_graph.specs.Numbers.{number_of}
use Rattle.merge_set_table.specs.declared.table.Table.{Table}
use Rattle.merge_set_table.specs.Names.{AreApart}
use Rattle.merge_set_table.specs.Once.{is_among}
use Rattle.merge_set_table.specs.Table.{Numbered, numbered, Falling}
use Rattle.merge_set_table.specs.Represents.{IsSetOf}
use Rattle.merge_set_table.specs.Inside.{IsInside}
use Rattle.merge_set_table.specs.Parts.{IsPartAt}
use Rattle.merge_set_table.specs.Sizes.{table_size}
use Rattle.merge_set_table.specs.Nesting.{inner_measure, Measures}
use Rattle.merge_set_table.specs.Adding.{AddsSet}
use Rattle.merge_graph.specs.declared.building.Building.{Building}
use Rattle.merge_graph.specs.Sizes.{share_of, selections_share, depths_share, taken}
use Rattle.merge_graph.specs.SetsIn.{IsSetIn, IsNodeIn, HasKnownConditions}
use Rattle.merge_graph.specs.Definitions.{type_round, selections_of, IsLast}

-- The number of a fragment: its place in the order in which the search for cycles finished the fragments.
abbrev pub rank_in : DocumentCycles → List ℕ → Option ℕ
rank_in c name = option_and_then (λ v. slice_get c.outcome.ranks.items v) (number_of c.graph.numbers name)

-- The names whose numbers are below the count.
pub record AreKnown (numbers : List ℕ → Option ℕ) (count : ℕ) (names : List ℕ → Option ℕ) : Type 0 where
  pub known : (name : List ℕ) (g : ℕ) → names name ≡ Some g → (numbers name ≡ Some g) × (g < count)
  pub knows : (name : List ℕ) (g : ℕ) → numbers name ≡ Some g → g < count → names name ≡ Some g

-- The sets of a stretch of an order.
abbrev pub stretch_of : List ℕ → Option (ℕ × ℕ) → List ℕ
stretch_of order None = []
stretch_of order (Some ends) = slice_range order ends.0 ends.1

-- Each stretch lies in the order.
abbrev pub AreStretches : List ℕ → List (Option (ℕ × ℕ)) → Type 0
AreStretches order stretches = (p start end : ℕ) → slice_get stretches p ≡ Some (Some (start, end)) → (start ≤ end) × (end ≤ length order)

module _ {S C : Type 0} where
  -- The order of the sets of the definition at a place, which is empty before they are there.
  abbrev pub order_at : Building S C → ℕ → List ℕ
  order_at b place = stretch_of b.order.items (option_and_then (λ o. o) (slice_get b.stretches.items place))

  -- The place is one of the document's, and the sets of its definition aren't there.
  abbrev pub IsFree : ℕ → Building S C → Type 0
  IsFree place b = slice_get b.stretches.items place ≡ Some None

  -- The set of the number is that of the definition.
  abbrev pub IsSetOfDefinition : Catalog S C → (List ℕ → Option ℕ) → Numbered S C → ℕ → Definition S → Type 0
  IsSetOfDefinition schema numbers m s d = IsSetOf schema numbers m s (type_round schema d) (selections_of d)

  -- Each set inside the definition is a part of one that has a number in the order of the place, or the very set.
  abbrev pub AreSetsAt : Catalog S C → (List ℕ → Option ℕ) → ℕ → Definition S → Building S C → Type 0
  AreSetsAt schema numbers place d b =
      (q : Option (MetaTypeOf S C)) (inner : List (Selection S)) → IsInside schema (type_round schema d) (selections_of d) q inner
      → (k : ℕ) × (is_among (order_at b place) k ≡ true) × IsPartAt schema numbers (numbered b.table) k q inner

  -- The fragment of the number has the set of its last definition.
  pub record IsFragment (schema : Catalog S C) (document : List (Definition S)) (numbers : List ℕ → Option ℕ)
      (m : Numbered S C) (fragments : List ℕ) (name : List ℕ) (g : ℕ) : Type 0 where
    pub set : ℕ
    pub stored : slice_get fragments g ≡ Some set
    pub place : ℕ
    pub last : IsLast document name place
    pub is : IsSetOfDefinition schema numbers m set last.is

  -- The order of the sets that were added is that of the place, which had none.
  pub record NotesOrder (place : ℕ) (b b' : Building S C) : Type 0 where
    pub free : IsFree place b
    pub order : b'.order.items ≡ b.order.items ++ b.table.order.items
    pub stretches : b'.stretches.items ≡ slice_set b.stretches.items place (Some (length b.order.items, length b'.order.items))
    pub same : numbered b'.table ≡ numbered b.table
    pub inner : b'.table.inner.items ≡ b.table.inner.items
    pub empty : b'.table.order.items ≡ []
    pub fragments : b'.fragments ≡ b.fragments
    pub size : table_size b'.table + length b.table.order.items ≡ table_size b.table

  -- The set of a definition was added, with all sets in it.
  pub record AddsDefinition (schema : Catalog S C) (names : List ℕ → Option ℕ) (d : Definition S) (place n : ℕ)
      (b b' : Building S C) : Type 0 where
    pub grown : Table S C
    pub adds : AddsSet schema names (type_round schema d) (selections_of d) n b.table grown
    pub notes : NotesOrder place (record b { table = grown }) b'

  -- The definition's set was added as that of the next fragment.
  pub record AddsFragment (schema : Catalog S C) (names : List ℕ → Option ℕ) (d : Definition S) (place : ℕ)
      (b b' : Building S C) : Type 0 where
    pub middle : Building S C
    pub set : ℕ
    pub adds : AddsDefinition schema names d place set b middle
    pub fragments : Vec ℕ Global
    pub is : b' ≡ record middle { fragments = fragments }
    pub pushed : fragments.items ≡ b.fragments.items ++ set ∷ []

  -- Nothing was added, and each of so many places is free.
  pub record IsNothing (count : ℕ) (b : Building S C) : Type 0 where
    pub apart : AreApart b.table.responses
    pub order : b.table.order.items ≡ []
    pub fields : b.table.fields.items ≡ []
    pub sets : b.table.sets.items ≡ []
    pub fragments : b.fragments.items ≡ []
    pub sized : length b.stretches.items ≡ count
    pub free : (p : ℕ) (o : Option (ℕ × ℕ)) → slice_get b.stretches.items p ≡ Some o → o ≡ None
    pub size : table_size b.table ≡ 0

  -- The set of the number is that of one of the document, under the type around it.
  abbrev pub HasOrigin : Catalog S C → List (Definition S) → (List ℕ → Option ℕ) → Numbered S C → ℕ → Type 0
  HasOrigin schema document numbers m k =
      (p : Option (MetaTypeOf S C)) × (set : List (Selection S)) × IsSetIn schema document p set
      × IsSetOf schema numbers m k p set

  -- All sets are in the order of some place. However they are measured, those of the order and the parts of sets measure
  -- no more than the depths of the selections that were added, and those of the fragments no more than their selections.
  pub record AreNested (schema : Catalog S C) (document : List (Definition S)) (b : Building S C) : Type 0 where
    pub count : length b.table.sets.items ≡ length (flat_map (stretch_of b.order.items) b.stretches.items)
    pub few : (f : ℕ → ℕ) (g : ℕ → ℕ → ℕ → ℕ) → Measures schema (numbered b.table) f g
        → sum_by f (flat_map (stretch_of b.order.items) b.stretches.items) + inner_measure g b.table.inner.items
        ≤ taken depths_share b.stretches.items document
    pub fragments : (f : ℕ → ℕ) (g : ℕ → ℕ → ℕ → ℕ) → Measures schema (numbered b.table) f g
        → sum_by f b.fragments.items ≤ taken selections_share b.stretches.items document

  -- What was added is right: each place with a stretch has the sets of its definition, and each set stands at some
  -- place where conditions are known. The fragments that are there have their numbers and their sets, which stand at
  -- some place.
  pub record Built (schema : Catalog S C) (document : List (Definition S)) (numbers : List ℕ → Option ℕ) (b : Building S C) : Type 0 where
    pub apart : AreApart b.table.responses
    pub order : b.table.order.items ≡ []
    pub falling : Falling b.table.sets.items b.fragments.items
    pub low : (g : ℕ) → g < length b.fragments.items → get_or b.fragments.items g 0 < length b.table.sets.items
    pub sized : length b.stretches.items ≡ length document
    pub within : AreStretches b.order.items b.stretches.items
    pub whole : HasKnownConditions schema document → (k : ℕ) → k < length b.table.sets.items → (p : ℕ) × (is_among (order_at b p) k ≡ true)
    pub added : (p : ℕ) (ends : ℕ × ℕ) (d : Definition S) → slice_get b.stretches.items p ≡ Some (Some ends) → slice_get document p ≡ Some d
        → AreSetsAt schema numbers p d b
    pub fragments : (name : List ℕ) (g : ℕ) → numbers name ≡ Some g → g < length b.fragments.items
        → IsFragment schema document numbers (numbered b.table) b.fragments.items name g
    -- each number of a fragment is that of a name
    pub named : (g : ℕ) → g < length b.fragments.items → (name : List ℕ) × (numbers name ≡ Some g)
    pub listed : (g : ℕ) → g < length b.fragments.items → (p : ℕ) × (is_among (order_at b p) (get_or b.fragments.items g 0) ≡ true)
    -- where the sets of the places and the fields come from
    pub sets_from : (k p : ℕ) → is_among (order_at b p) k ≡ true → HasOrigin schema document numbers (numbered b.table) k
    pub fields_from : (k : ℕ) (a : PlainEntry S C) → slice_get (map plain b.table.fields.items) k ≡ Some a → IsNodeIn schema document a
    -- where conditions are known, they take no more than their share
    pub size : HasKnownConditions schema document
        → table_size b.table + length (flat_map (stretch_of b.order.items) b.stretches.items)
        ≤ taken share_of b.stretches.items document
    pub nests : HasKnownConditions schema document → AreNested schema document b
