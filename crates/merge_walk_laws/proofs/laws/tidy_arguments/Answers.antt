use Rattle.merge_walk_laws.proofs.Agreeing
use Rattle.merge_walk_laws.proofs.laws.tidy_arguments.Goals as goal

pub returns : goal.returns
returns g c = Agreeing.tidy_arguments
