use Rattle.std.proofs.Common.{Bool, inr, subst, ◌∙◌}
use Rattle.std.specs.Bool.{OnTrue}
use Rattle.merge_sets.specs.Judgement.{NoneConflict}
use Rattle.merge_sets.proofs.plain_names.mark_name.Goals as goal

pub returns-then-branch-clause-told : goal.returns-then-branch-clause-told
returns-then-branch-clause-told g c =
    let j = g.J.Judge.judgement c.args.graph.now.judge in
    let group = c.fields_named-group.result.now in
    let is = c.fields_named-group.ensures ∙ c.sorted_fields.ensures.grouped c.args.name in
    inr (subst (λ xs. (e : Bool) → NoneConflict j e xs xs) is (subst (λ b. OnTrue b ((e : Bool) → NoneConflict j e group group)) c.if-branch.true c.in_ok-agree_always.ensures.agree))
