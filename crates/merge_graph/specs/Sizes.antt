-- How much the sets of a document take: the entries of their lists. And how many selections it has, and how deep.
use Rattle.std.specs.Prelude.{ℕ, ◌+◌, ◌*◌, List, [], ◌∷◌, Option, Some, None, length}
use Rattle.std.specs.List.{sum_by}
use Rattle.language.specs.declared.tree.Definition.{Definition}
use Rattle.language.specs.SelectionsInside.{all_inside}
use Rattle.merge_sets.specs.declared.graph.Graph.{Graph}
use Rattle.merge_graph.specs.declared.judge.FieldJudge.{FieldJudge}
use Rattle.merge_set_table.specs.Depths.{depths}
use Rattle.merge_graph.specs.Sets.{PlainSet, plain_node}
use Rattle.merge_graph.specs.Definitions.{selections_of}

module _ {S : Type 0} where
  -- What a definition may take: four entries for each selection in it, at any depth, and two.
  abbrev pub share_of : Definition S → ℕ
  share_of d = 4 * all_inside (selections_of d) + 2

  abbrev pub document_share : List (Definition S) → ℕ
  document_share document = sum_by share_of document

  -- The selections of a definition, at any depth, and their depths; of a document, those of its definitions.
  abbrev pub selections_share : Definition S → ℕ
  selections_share d = all_inside (selections_of d)

  abbrev pub selection_count : List (Definition S) → ℕ
  selection_count document = sum_by selections_share document

  abbrev pub depths_share : Definition S → ℕ
  depths_share d = depths (selections_of d) 1

  abbrev pub document_depths : List (Definition S) → ℕ
  document_depths document = sum_by depths_share document

  -- What those definitions have whose sets are there.
  abbrev pub taken : (Definition S → ℕ) → List (Option (ℕ × ℕ)) → List (Definition S) → ℕ
  taken share [] ds = 0
  taken share (o ∷ os) [] = 0
  taken share (None ∷ os) (d ∷ ds) = taken share os ds
  taken share (Some ends ∷ os) (d ∷ ds) = share d + taken share os ds

abbrev pub set_size : PlainSet → ℕ
set_size s = 1 + (length s.own + length s.spreads)

-- A graph: its fields, its order, its inner sets and the spreads as they are written, and its sets.
abbrev pub graph_size : {S C : Type 0} → Graph (FieldJudge S C) → ℕ
graph_size g = length g.judge.fields.items + length g.order.items + length g.inner.items + length g.written.items +
    sum_by (λ n. set_size (plain_node n)) g.sets.items
