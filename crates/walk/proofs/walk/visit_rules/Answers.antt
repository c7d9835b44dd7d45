use Rattle.std.proofs.Common.{sym}
use Rattle.std.proofs.lemmas.Result.{on_ok_weaker}
use Rattle.walk.proofs.Walks.{fresh_append}
use Rattle.walk.proofs.walk.visit_rules.Goals as goal

pub returns-clause-ran : goal.returns-clause-ran
returns-clause-ran g c = rw (sym c.shorten.ensures) c.walk_with.ensures.ran

pub returns-clause-appended : goal.returns-clause-appended
returns-clause-appended g c =
    on_ok_weaker c.walk_with.result
    (λ r known. fresh_append g.R.Machine.step g.R.Fresh.fresh g.R.Rule.allows g.met.R.Rule.keeps _ _ _ _ _ c.requires.fresh known r)
    (returns-clause-ran g c)

pub returns-clause-only : goal.returns-clause-only
returns-clause-only g c = on_ok_weaker c.walk_with.result (λ r. (r.0, tt, r.2)) c.walk_with.ensures.ran
