use Rattle.merge_walk_laws.proofs.Agreeing
use Rattle.merge_walk_laws.proofs.laws.fields_agree.Goals as goal

pub returns : goal.returns
returns g c = Agreeing.fields_agree
