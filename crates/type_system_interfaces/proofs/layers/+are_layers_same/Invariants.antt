use Rattle.std.proofs.Common.{length}
use Rattle.type_system_interfaces.proofs.layers.+are_layers_same.Given as goal

abbrev pub decreases-are_layers_same : goal.decreases-are_layers_same
decreases-are_layers_same l = length l.left.now
