use Rattle.merge_walk_laws.proofs.Agreeing
use Rattle.merge_walk_laws.proofs.laws.inlines_occur.Goals as goal

pub returns : goal.returns
returns g c = Agreeing.inlines_occur
