use Rattle.std.proofs.Common.{refl}
use Rattle.fragment_graph.proofs.preorder.Preorder.begin.Goals as goal

pub returns-clause-rest : goal.returns-clause-rest
returns-clause-rest g c = refl

pub returns-clause-waiting : goal.returns-clause-waiting
returns-clause-waiting g c = refl
