use Rattle.walk.proofs.laws.rules_are_settled.Goals as goal

pub returns : goal.returns
returns g c = g.met.R.SettledRule.silent
