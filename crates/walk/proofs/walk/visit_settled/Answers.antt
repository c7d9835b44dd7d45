use Rattle.std.proofs.lemmas.Result.{on_ok_weaker}
use Rattle.walk.proofs.Sums.{settled_where}
use Rattle.walk.proofs.walk.visit_settled.Goals as goal

pub returns-clause-appended : goal.returns-clause-appended
returns-clause-appended g c =
    on_ok_weaker c.visit_rules.result
    (λ appended known. settled_where g.R.Rule.allows g.R.Criterion.finds_nothing g.met.R.SettledRule.silent _ c.args.document.now _ _ (appended known))
    c.visit_rules.ensures.appended
