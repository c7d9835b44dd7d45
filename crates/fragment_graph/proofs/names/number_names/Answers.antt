use Rattle.std.proofs.Common.{◌∙◌, ap, sym, subst, take, map}
use Rattle.fragment_graph.specs.declared.numbers.Numbers.{Numbers}
use Rattle.fragment_graph.specs.Numbers.{NumberedDefinitions}
use Rattle.fragment_graph.proofs.Joining.{next_take}
use Rattle.fragment_graph.proofs.Naming.{definitions_more, index_is_number, names_all, names_start, numbered_by}
use Rattle.fragment_graph.proofs.Numbering.{by_map, number_is}
use Rattle.fragment_graph.proofs.names.number_names.Goals as goal

pub loop-definition-init : goal.loop-definition-init
loop-definition-init g c = λ n. record {
  numbers = names_start (by_map n c.in_ok-map.map) (λ name. number_is (by_map n c.in_ok-map.map) name ∙ c.in_ok-map.ensures.none name) (ap (map (λ e. e.0.now)) c.in_ok-map.ensures.entries);
  each = c.in_ok-defined.ensures.items;
}

pub loop-definition-preserved : goal.loop-definition-preserved
loop-definition-preserved g c = λ n.
    let old = c.loop-definition.map in
    let new = c.add_definition.new.map in
    subst (λ zs. NumberedDefinitions zs (by_map n new) c.push.new.self.items)
    (sym (next_take c.args.document.now c.loop-definition.definition-index c.definition-item.result c.definition-item.is c.loop-definition-test.true))
    (definitions_more (take c.loop-definition.definition-index c.args.document.now) c.definition-item.result (by_map n old) (by_map n new)
    c.loop-definition.defined.items c.push.new.self.items c.in_ok-add_definition.field-0
    (numbered_by c.definition-item.result n old new c.in_ok-add_definition.ensures.adds)
    (c.in_ok-add_definition.ensures.index ∙ index_is_number c.definition-item.result n new)
    c.in_ok-push.ensures.items (c.loop-definition.invariant n))

pub returns : goal.returns
returns g c =
    let n : Numbers = record { map = c.in_ok-shared.shared } in
    subst (λ m. NumberedDefinitions c.args.document.now (by_map n m) c.loop-definition.defined.items) (sym c.in_ok-shared.ensures.ok)
    (names_all c.args.document.now c.loop-definition.definition-index (by_map n c.loop-definition.map) c.loop-definition.defined.items c.loop-definition-test.false (c.loop-definition.invariant n))
