use Rattle.std.proofs.Common.{◌≡◌, ◌+◌, ◌∙◌, length, ap, ap₂, subst}
use Rattle.std.specs.List.{flat_map}
use Rattle.std.proofs.lemmas.Result.{IfOk-weaker}
use Rattle.merge_set_table.specs.Sizes.{table_size}
use Rattle.merge_set_table.specs.Table.{numbered}
use Rattle.merge_graph.specs.Building.{stretch_of}
use Rattle.merge_graph.specs.TableGraph.{IsGraphOfTable}
use Rattle.merge_graph.specs.Assembly.{joined_order}
use Rattle.merge_graph.proofs.Assembling.{joined_listed}
use Rattle.merge_graph.proofs.document.graph_of_building.Goals as goal

pub graph_of_table-requires-clause-listed : goal.graph_of_table-requires-clause-listed
graph_of_table-requires-clause-listed g c =
    joined_listed c.args.building c.in_ok-order.order.items (c.in_ok-order.ensures ∙ ap₂ (λ xs os. flat_map (stretch_of xs) os) c.as_slice.ensures.value c.as_slice-2.ensures.value) c.requires.listed

pub returns : goal.returns
returns g c =
    let joined : c.in_ok-order.order.items ≡ joined_order c.args.building = c.in_ok-order.ensures ∙ ap₂ (λ xs os. flat_map (stretch_of xs) os) c.as_slice.ensures.value c.as_slice-2.ensures.value in
    record {
      is = IfOk-weaker c.graph_of_table.result _ _
          (λ x h. subst (λ xs. IsGraphOfTable c.args.schema.now (numbered c.args.building.table) c.args.building.fragments.items xs x) joined h)
          c.graph_of_table.ensures.is;
      size = IfOk-weaker c.graph_of_table.result _ _
          (λ x h. h ∙ ap (λ xs. table_size c.args.building.table + length xs) joined)
          c.graph_of_table.ensures.size;
      inner = c.graph_of_table.ensures.inner;
    }
