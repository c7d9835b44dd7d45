use Rattle.walk.proofs.Runs.{popped-pushed, popped-reported, popped-left}
use Rattle.walk.proofs.laws.pushes_are_undone.Goals as goal

pub returns : goal.returns
returns g c = λ w t. (popped-pushed w t, popped-reported w t, λ left. popped-left w left t)
