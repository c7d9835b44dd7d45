use Rattle.std.proofs.Common.{◌≡◌, ◌+◌}
use Rattle.language_values.specs.ValuesInside.{values_inside}
use Rattle.language_values.proofs.value.InputValue.descend.Given as goal

-- what is in hand and what waits hold as many as there were
abbrev pub invariant-loop-waiting : goal.invariant-loop-waiting
invariant-loop-waiting g l = values_inside l.self + values_inside l.waiting ≡ values_inside l.initial.self + values_inside l.initial.waiting

abbrev pub decreases-loop-waiting : goal.decreases-loop-waiting
decreases-loop-waiting g l = values_inside l.self
