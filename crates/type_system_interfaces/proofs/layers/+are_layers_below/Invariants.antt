use Rattle.std.proofs.Common.{length}
use Rattle.type_system_interfaces.proofs.layers.+are_layers_below.Given as goal

abbrev pub decreases-are_layers_below : goal.decreases-are_layers_below
decreases-are_layers_below l = length l.sub_type.now
