use Rattle.walk.proofs.Walks.{one_appends, fresh_append}
use Rattle.walk.proofs.laws.rules_append.Goals as goal

pub returns-clause-list : goal.returns-clause-list
returns-clause-list g c = fresh_append g.R.Machine.step g.R.Fresh.fresh g.R.Rule.allows g.met.R.Rule.keeps

pub returns-clause-alone : goal.returns-clause-alone
returns-clause-alone g c = one_appends g.R.Machine.step g.R.Fresh.fresh g.R.Rule.allows g.met.R.Rule.keeps
