use Rattle.std.proofs.Common.{◌++◌, List, subst, ap, ◌∙◌}
use Rattle.std.specs.List.{flat_map}
use Rattle.fragment_graph.specs.declared.graph.Spread.{Spread}
use Rattle.fragment_reach.specs.OperationSpreads.{resolved_lists}
use Rattle.fragment_reach.specs.Search.{MarksReached}
use Rattle.operation_scopes.specs.Searches.{fragment_places}
use Rattle.operation_scopes.proofs.InReaching.{in_reach}
use Rattle.operation_scopes.proofs.Spreading.{lists_at}
use Rattle.operation_scopes.proofs.reach.reached_definitions.Goals as goal

pub returns-clause-reached : goal.returns-clause-reached
returns-clause-reached g c =
    let index = c.args.index.now in
    let own = c.args.own.now in
    let marks = c.explore.new.marks.items in
    let starts =
    ◌∙◌ {A = List Spread} c.as_slice.ensures.value
    (◌∙◌ {A = List Spread} (c.in_ok-list_spreads.ensures (resolved_lists index.graph.numbers c.args.document.now) c.requires.index.spreads.lists) (lists_at index.graph.numbers c.args.document.now own))
    in
    λ name kept.
    in_reach c.args.document.now index c.requires.index name own c.explore.new.order.items c.list_places.new.places.items marks kept
    (subst (λ zs. MarksReached index.graph.nodes.items zs marks) starts
    (subst (λ zs. MarksReached zs c.as_slice.result.now marks) c.as_slice-nodes.ensures.value c.in_ok-explore.ensures.reached))
    c.in_ok-explore.ensures.listed
    (c.in_ok-list_places.ensures ∙ ap (λ zs. own ++ flat_map (fragment_places index) zs) c.as_slice-2.ensures.value)
