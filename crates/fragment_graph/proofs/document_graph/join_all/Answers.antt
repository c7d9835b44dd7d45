use Rattle.std.proofs.Common.{[], ◌+◌, ap, sym, length, ◌∙◌, take, length-append}
use Rattle.std.specs.List.{flat_map}
use Rattle.fragment_graph.specs.Graph.{spreads_of}
use Rattle.fragment_graph.specs.Spreads.{definition_spreads, spreads_named}
use Rattle.fragment_graph.specs.DocumentGraph.{resolved}
use Rattle.fragment_graph.proofs.Joining.{more_spreads, flat_map-next}
use Rattle.fragment_graph.proofs.GraphGrowth.{each_numbered}
use Rattle.fragment_graph.proofs.document_graph.join_all.Goals as goal

pub loop-place-init : goal.loop-place-init
loop-place-init g c = record {
  sized = c.in_ok-nodes.ensures.len ∙ c.name_count.ensures;
  joined = λ name k h. c.in_ok-nodes.ensures.empty k;
  counted = c.in_ok-nodes.ensures.counted;
}

pub join_definition-requires-clause-has : goal.join_definition-requires-clause-has
join_definition-requires-clause-has g c =
    each_numbered c.args.numbers.now c.args.document.now c.index-document-place.result c.requires.numbers
    (c.loop-place.place, c.loop-place-test.true, sym c.index-document-place.is)

pub loop-place-preserved : goal.loop-place-preserved
loop-place-preserved g c = record {
  sized = c.in_ok-join_definition.ensures.sized ∙ c.loop-place.invariant.sized;
  joined = λ name k h.
      more_spreads (resolved c.args.numbers.now) (spreads_named name) c.args.document.now c.loop-place.place c.index-document-place.result
      [] (spreads_of c.loop-place.nodes.items k) (spreads_of c.join_definition.new.nodes.items k)
      c.index-document-place.is c.loop-place-test.true (c.loop-place.invariant.joined name k h) (c.in_ok-join_definition.ensures.joined name k h);
  counted =
      c.in_ok-join_definition.ensures.counted
      ∙ ap (λ n. n + length (definition_spreads c.index-document-place.result)) c.loop-place.invariant.counted
      ∙ sym (ap length (flat_map-next definition_spreads c.args.document.now c.loop-place.place c.index-document-place.result c.index-document-place.is c.loop-place-test.true)
      ∙ length-append (flat_map definition_spreads (take c.loop-place.place c.args.document.now)) (definition_spreads c.index-document-place.result));
}
