use Rattle.std.proofs.Common.{false, subst}
use Rattle.std.specs.Bool.{OnTrue}
use Rattle.std.proofs.lemmas.Result.{IfOk-weaker}
use Rattle.merge_sets.specs.Judgement.{NoneConflict}
use Rattle.merge_sets.proofs.Laws.{on_true_weaker, both_flags}
use Rattle.merge_sets.proofs.plain_names.agree_always.Goals as goal

pub returns-clause-agree : goal.returns-clause-agree
returns-clause-agree g c =
    let j = g.J.Judge.judgement c.args.graph.now.judge in
    let xs = c.args.fields.now in
    let one = subst (λ b. OnTrue b (NoneConflict j false xs xs)) c.if-not-branch.false c.in_ok-agree_by_kinds.ensures.agree in
    IfOk-weaker c.agree_by_kinds-2.result _ _
    (λ b h. on_true_weaker b (λ other e. both_flags (λ y. NoneConflict j y xs xs) e other one) h) c.agree_by_kinds-2.ensures.agree
