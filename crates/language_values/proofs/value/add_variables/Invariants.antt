use Rattle.std.proofs.Common.{◌≡◌, ◌++◌, map}
use Rattle.language_values.specs.Values.{variables_of}
use Rattle.language_values.specs.ValuesLeft.{variables_waiting, values_waiting}
use Rattle.language_values.proofs.value.add_variables.Given as goal

-- what was found, and what those have that wait
abbrev pub invariant-loop-rest : goal.invariant-loop-rest
invariant-loop-rest g l = map (λ s. s.now) l.found.items ++ variables_waiting l.waiting.items ≡ map (λ s. s.now) l.fn.found.items ++ variables_of l.value

abbrev pub decreases-loop-rest : goal.decreases-loop-rest
decreases-loop-rest g l = values_waiting l.waiting.items
