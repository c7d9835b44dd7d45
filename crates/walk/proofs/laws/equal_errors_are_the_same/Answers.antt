use Rattle.walk.proofs.Orders.{equal_means_same}
use Rattle.walk.proofs.laws.equal_errors_are_the_same.Goals as goal

pub returns : goal.returns
returns c = equal_means_same
