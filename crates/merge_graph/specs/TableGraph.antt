-- The graph of a table.
use Rattle.std.specs.Prelude.{◌≡◌, ◌<◌, ℕ, List, map, length, get_or, true}
use Rattle.schema.specs.Catalog.{Catalog}
use Rattle.merge_field_pairs.specs.Entries.{plain}
use Rattle.merge_sets.specs.declared.graph.Graph.{Graph}
use Rattle.merge_set_table.specs.Once.{is_among}
use Rattle.merge_set_table.specs.Table.{Numbered}
use Rattle.merge_graph.specs.declared.judge.FieldJudge.{FieldJudge}
use Rattle.merge_graph.specs.Sets.{plain_row, plain_node}

-- The set of each fragment stands in the order.
abbrev pub AreListed : List ℕ → List ℕ → Type 0
AreListed fragments order = (g : ℕ) → g < length fragments → is_among order (get_or fragments g 0) ≡ true

module _ {S C : Type 0} where
  -- The graph has the table's fields and sets in this order, and judges under the schema.
  pub record IsGraphOfTable (schema : Catalog S C) (m : Numbered S C) (fragments order : List ℕ) (g : Graph (FieldJudge S C)) : Type 0 where
    pub judged_under : g.judge.schema.now ≡ schema
    pub fields : map plain g.judge.fields.items ≡ m.fields
    pub sets : map plain_node g.sets.items ≡ map plain_row m.sets
    pub fragments_are : g.fragments.items ≡ fragments
    pub order_is : g.order.items ≡ order
