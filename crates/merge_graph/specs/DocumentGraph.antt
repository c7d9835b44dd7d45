-- The graph of a document.
use Rattle.std.specs.Prelude.{◌≡◌, ◌<◌, ◌≤◌, ◌↔◌, ◌+◌, ℕ, List, Option, Some, length, slice_get}
use Rattle.std.specs.List.{Contains, sum_by}
use Rattle.language.specs.declared.tree.Definition.{Definition}
use Rattle.language.specs.declared.tree.Selection.{Selection}
use Rattle.meta.specs.declared.kinds.MetaTypeOf.{MetaTypeOf}
use Rattle.schema.specs.Catalog.{Catalog}
use Rattle.fragment_graph.specs.Numbers.{Defines}
use Rattle.merge_field_pairs.specs.Entries.{PlainEntry}
use Rattle.merge_sets.specs.declared.graph.Graph.{Graph}
use Rattle.merge_set_table.specs.Names.{AreApart}
use Rattle.merge_set_table.specs.Table.{Numbered}
use Rattle.merge_set_table.specs.Parts.{IsPartAt}
use Rattle.merge_set_table.specs.Nesting.{inner_measure, Measures}
use Rattle.merge_graph.specs.Definitions.{fragment_count}
use Rattle.merge_graph.specs.SetsIn.{IsSetIn, IsNodeIn, HasKnownConditions}
use Rattle.merge_graph.specs.declared.judge.FieldJudge.{FieldJudge}
use Rattle.merge_graph.specs.Building.{IsFragment, HasOrigin}
use Rattle.merge_graph.specs.Sizes.{graph_size, document_share, document_depths, selection_count}
use Rattle.merge_graph.specs.TableGraph.{IsGraphOfTable}

-- Where sets and fields of the graph come from, and how many fragments it has.
pub record AreOrigins {S C : Type 0} (schema : Catalog S C) (document : List (Definition S))
    (numbers : List ℕ → Option ℕ) (table : Numbered S C) (fragment_sets order : List ℕ) : Type 0 where
  -- each set of the order is that of one of the document, under the type around it
  pub sets : (k : ℕ) → Contains order k → HasOrigin schema document numbers table k
  -- each field is one of the document
  pub fields : (k : ℕ) (a : PlainEntry S C) → slice_get table.fields k ≡ Some a → IsNodeIn schema document a
  -- no more fragments than there are definitions of fragments
  pub few : length fragment_sets ≤ fragment_count document
  -- each set stands in the order where conditions are known
  pub whole : HasKnownConditions schema document → (k : ℕ) → k < length table.sets → Contains order k

-- All sets are in the order, each once. However sets are measured, all of them and the sets of inline fragments measure no
-- more than the depths of the document's selections, and those of the fragments no more than its selections.
pub record AreNested {S C : Type 0} (schema : Catalog S C) (document : List (Definition S)) (table : Numbered S C)
    (fragment_sets order : List ℕ) (g : Graph (FieldJudge S C)) : Type 0 where
  pub count : length table.sets ≡ length order
  pub few : (f : ℕ → ℕ) (parts : ℕ → ℕ → ℕ → ℕ) → Measures schema table f parts
      → sum_by f order + inner_measure parts g.inner.items ≤ document_depths document
  pub fragments : (f : ℕ → ℕ) (parts : ℕ → ℕ → ℕ → ℕ) → Measures schema table f parts → sum_by f fragment_sets ≤ selection_count document

-- Each fragment has a number of its own and the set of its last definition, and each set of the document stands in the
-- order, or is a part of one there.
pub record IsGraphOf {S C : Type 0} (schema : Catalog S C) (document : List (Definition S)) (g : Graph (FieldJudge S C)) : Type 0 where
  pub table : Numbered S C
  pub numbers : List ℕ → Option ℕ
  pub fragment_sets : List ℕ
  pub order : List ℕ
  pub is : IsGraphOfTable schema table fragment_sets order g
  pub apart : AreApart table.responses
  pub defined : (name : List ℕ) → ((f : ℕ) × (numbers name ≡ Some f)) ↔ Defines document name
  pub single : (name other : List ℕ) (f : ℕ) → numbers name ≡ Some f → numbers other ≡ Some f → name ≡ other
  pub fragments : (name : List ℕ) (f : ℕ) → numbers name ≡ Some f → IsFragment schema document numbers table fragment_sets name f
  pub sets : (p : Option (MetaTypeOf S C)) (set : List (Selection S)) → IsSetIn schema document p set → (s : ℕ)
      × Contains order s × IsPartAt schema numbers table s p set
  pub origins : AreOrigins schema document numbers table fragment_sets order
  -- where conditions are known it is linear in the document
  pub size : HasKnownConditions schema document → graph_size g ≤ document_share document
  pub nests : HasKnownConditions schema document → AreNested schema document table fragment_sets order g
