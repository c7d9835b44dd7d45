-- How many selections the sets have that were added: each set has those in it, at any depth.
use Rattle.std.specs.Prelude.{◌≡◌, ◌≤◌, ◌+◌, ℕ, List, ◌++◌, Option, Some, length, slice_get, slice_range}
use Rattle.std.specs.List.{sum_by}
use Rattle.language.specs.declared.tree.Selection.{Selection}
use Rattle.language.specs.SelectionsInside.{all_inside}
use Rattle.meta.specs.declared.kinds.MetaTypeOf.{MetaTypeOf}
use Rattle.schema.specs.Catalog.{Catalog}
use Rattle.merge_sets.specs.declared.node.Entry.{Entry as OwnField}
use Rattle.merge_sets.specs.declared.node.InnerSet.{InnerSet}
use Rattle.merge_set_table.specs.declared.table.NumberedSet.{NumberedSet}
use Rattle.merge_set_table.specs.declared.table.Table.{Table}
use Rattle.merge_set_table.specs.Depths.{depths}
use Rattle.merge_set_table.specs.Table.{Numbered, numbered}
use Rattle.merge_set_table.specs.Represents.{Represents, IsSetOf}

-- A measure of the sets of inline fragments, by where they start and end in the set round them; of those in one set,
-- and of those in all sets, by their numbers.
abbrev pub parts_measure : (ℕ → ℕ → ℕ) → List InnerSet → ℕ
parts_measure h parts = sum_by (λ i. h i.first_field i.fields_end) parts

abbrev pub inner_measure : (ℕ → ℕ → ℕ → ℕ) → List InnerSet → ℕ
inner_measure g inner = sum_by (λ i. g i.outer i.first_field i.fields_end) inner

module _ {S C : Type 0} (schema : Catalog S C) (m : Numbered S C) where
  -- A stretch of own fields measures no more than the selections that it represents.
  pub record MeasuresParts (own : List OwnField) (h : ℕ → ℕ → ℕ) : Type 0 where
    pub most : (numbers : List ℕ → Option ℕ) (p : Option (MetaTypeOf S C)) (set : List (Selection S)) (start end : ℕ) (to : List ℕ)
        → start ≤ end → end ≤ length own → Represents schema numbers m p set (slice_range own start end) to → h start end ≤ all_inside set

  -- No set measures more than its selections, nor does a part of it.
  pub record Measures (f : ℕ → ℕ) (g : ℕ → ℕ → ℕ → ℕ) : Type 0 where
    pub sets : (numbers : List ℕ → Option ℕ) (p : Option (MetaTypeOf S C)) (set : List (Selection S)) (n : ℕ)
        → IsSetOf schema numbers m n p set → f n ≤ all_inside set
    pub parts : (n : ℕ) (row : NumberedSet) → slice_get m.sets n ≡ Some row → MeasuresParts row.own.items (g n)

module _ {S C : Type 0} (schema : Catalog S C) where
  -- Sets were added to the order, and begun in a set. All that was stored is in the order. However sets are measured,
  -- those that were added measure no more than the depths of the selections, the first of which are at depth 0.
  pub record Nests (xs : List (Selection S)) (more : List ℕ) (part part' : NumberedSet) (t t' : Table S C) : Type 0 where
    pub begun : List InnerSet
    pub parts : part'.inner.items ≡ part.inner.items ++ begun
    pub count : length t'.sets.items ≡ length t.sets.items + length more
    pub few : (f : ℕ → ℕ) (h : ℕ → ℕ → ℕ) (g : ℕ → ℕ → ℕ → ℕ) → Measures schema (numbered t') f g
        → MeasuresParts schema (numbered t') part'.own.items h
        → sum_by f more + parts_measure h begun + inner_measure g t'.inner.items ≤ inner_measure g t.inner.items + depths xs 0

  -- The same, where the set itself was stored.
  pub record NestsSet (set : List (Selection S)) (more : List ℕ) (t t' : Table S C) : Type 0 where
    pub count : length t'.sets.items ≡ length t.sets.items + length more
    pub few : (f : ℕ → ℕ) (g : ℕ → ℕ → ℕ → ℕ) → Measures schema (numbered t') f g
        → sum_by f more + inner_measure g t'.inner.items ≤ inner_measure g t.inner.items + depths set 1
