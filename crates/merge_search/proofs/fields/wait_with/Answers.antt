use Rattle.std.proofs.Common.{subst}
use Rattle.std.specs.Bool.{OnTrue}
use Rattle.merge_search.specs.declared.task.Task.TheVariants.{With}
use Rattle.merge_sets.specs.Clear.{IsClear}
use Rattle.merge_sets.specs.Names.{named}
use Rattle.merge_sets.specs.World.{own_of}
use Rattle.merge_search.specs.Tasks.{Meets, MeetsWith}
use Rattle.merge_search.proofs.Costs.{costs_pushed}
use Rattle.merge_search.proofs.Leading.{leads_turn, waits_none, waits_pushed}
use Rattle.merge_search.proofs.Steps.{with_clear, with_whole}
use Rattle.merge_search.proofs.fields.wait_with.Goals as goal

pub returns-then-is_clear-clause-waits : goal.returns-then-is_clear-clause-waits
returns-then-is_clear-clause-waits c w clear =
    let e = c.args.e in
    let a = c.args.a in
    let j = c.args.j in
    waits_none w (MeetsWith w e a j) _ (λ s. with_clear w e a j s (subst (λ b. OnTrue b (IsClear w e a (named a.response (own_of w j)))) c.if-is_clear.true clear))

pub returns-clause-waits : goal.returns-clause-waits
returns-clause-waits c w clear =
    let e = c.args.e in
    let a = c.args.a in
    let j = c.args.j in
    λ now. leads_turn w (Meets w (With a j e 0)) (MeetsWith w e a j) _ _ now now now (λ t d. with_whole w e a j now t d)
    (waits_pushed w (With a j e 0) _ _ c.in_ok-push.ensures.items now)

pub returns-clause-costs : goal.returns-clause-costs
returns-clause-costs c w = costs_pushed w (With c.args.a c.args.j c.args.e 0) _ _ c.in_ok-push.ensures.items
