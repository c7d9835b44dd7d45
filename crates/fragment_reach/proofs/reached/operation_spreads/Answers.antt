use Rattle.std.proofs.Common.{[], subst, sym, ◌∙◌, append-nil, refl, take}
use Rattle.std.proofs.lemmas.List.{take_all}
use Rattle.fragment_graph.specs.DocumentGraph.{resolved}
use Rattle.jagged_lists.specs.Lists.{Holds, joined}
use Rattle.jagged_lists.proofs.Ranges.{holds_more}
use Rattle.fragment_reach.specs.OperationSpreads.{resolved_lists, resolved_spreads}
use Rattle.fragment_reach.specs.Reach.{definition_spreads}
use Rattle.fragment_reach.proofs.Spreads.{joined_lists, next_lists}
use Rattle.fragment_reach.proofs.reached.operation_spreads.Goals as goal

pub loop-definition-preserved : goal.loop-definition-preserved
loop-definition-preserved g c =
    let numbers = c.args.numbers.now in
    let document = c.args.document.now in
    let i = c.loop-definition.definition-index in
    let d = c.definition-item.result in
    let before = resolved_lists numbers (take i document) in
    subst (λ ls. Holds ls [] c.end_list.new.self) (sym (next_lists (resolved_spreads numbers) document i d c.definition-item.is c.loop-definition-test.true))
    (c.in_ok-end_list.ensures.ok before (resolved_spreads numbers d) (holds_more before [] (resolved_spreads numbers d) c.loop-definition.found _ c.loop-definition.invariant c.in_ok-add_operation.ensures refl refl))

whole : goal.returns-clause-lists
whole g c =
    subst (λ ds. Holds (resolved_lists c.args.numbers.now ds) [] c.loop-definition.found) (take_all c.loop-definition.definition-index c.args.document.now c.loop-definition-test.false) c.loop-definition.invariant

pub returns-clause-lists : goal.returns-clause-lists
returns-clause-lists = whole

pub returns-clause-all : goal.returns-clause-all
returns-clause-all g c =
    (whole g c).items ∙ append-nil (joined (resolved_lists c.args.numbers.now c.args.document.now)) ∙ joined_lists (resolved c.args.numbers.now) definition_spreads c.args.document.now
