use Rattle.std.proofs.Common.{true, subst}
use Rattle.std.specs.Bool.{OnTrue}
use Rattle.std.proofs.lemmas.Result.{IfOk-weaker}
use Rattle.merge_sets.specs.Judgement.{NoneConflict}
use Rattle.merge_sets.proofs.Laws.{on_true_weaker, both_flags}
use Rattle.merge_decision.proofs.settling.agree.Goals as goal

pub returns-clause-agree : goal.returns-clause-agree
returns-clause-agree g c =
    let j = g.J.Judge.judgement c.args.graph.now.judge in
    let xs = c.args.fields.now in
    let one = subst (λ b. OnTrue b (NoneConflict j true xs xs)) c.if-not-is_found.false c.in_ok-is_found.ensures.agree in
    IfOk-weaker c.agree_together-2.result _ _
    (λ b h. on_true_weaker b (λ other e from. both_flags (λ y. NoneConflict j y xs xs) e one other) h) c.agree_together-2.ensures.agree
