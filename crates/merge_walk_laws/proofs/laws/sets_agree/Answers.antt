use Rattle.merge_walk_laws.proofs.Agreeing
use Rattle.merge_walk_laws.proofs.laws.sets_agree.Goals as goal

pub returns : goal.returns
returns g c = Agreeing.sets_agree
