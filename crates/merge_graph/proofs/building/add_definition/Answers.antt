use Rattle.std.proofs.Common.{subst, option_copied}
use Rattle.merge_set_table.specs.Known.{known_rank}
use Rattle.merge_set_table.specs.Adding.{AddsSet}
use Rattle.merge_graph.specs.Definitions.{selections_of}
use Rattle.merge_graph.proofs.building.add_definition.Goals as goal

pub returns : goal.returns
returns g c =
    let schema = c.args.schema.now in
    let old = c.args.building.now in
    record {
      grown = c.add_set.new.table;
      adds = subst (λ p. AddsSet schema (known_rank c.args.known.now) p (selections_of c.args.definition.now) c.in_ok-number.number old.table c.add_set.new.table) c.type_of_definition-parent.ensures
          (subst (λ xs. AddsSet schema (known_rank c.args.known.now) (option_copied c.type_of_definition-parent.result) xs c.in_ok-number.number old.table c.add_set.new.table) c.selections-set.ensures c.in_ok-number.ensures);
      notes = c.in_ok-note_order.ensures;
    }
