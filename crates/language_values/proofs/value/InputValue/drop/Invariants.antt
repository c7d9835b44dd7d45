use Rattle.language_values.specs.ValuesInside.{values_inside}
use Rattle.language_values.proofs.value.InputValue.drop.Given as goal

abbrev pub decreases-loop-value : goal.decreases-loop-value
decreases-loop-value g l = values_inside l.self
