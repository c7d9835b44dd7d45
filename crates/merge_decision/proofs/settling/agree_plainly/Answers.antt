use Rattle.merge_sets.proofs.Laws.{on_true_weaker}
use Rattle.merge_decision.proofs.settling.agree_plainly.Goals as goal

pub returns-in-Some-clause-agree : goal.returns-in-Some-clause-agree
returns-in-Some-clause-agree g c =
    let judge = c.args.graph.now.judge in
    on_true_weaker c.are_like.result (λ like e k d l m d' l'. g.J.Judge.agree judge e c.in-Some.first.now.field _ _ (like k d l) (like m d' l')) c.are_like.ensures.like
