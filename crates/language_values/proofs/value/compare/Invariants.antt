use Rattle.std.proofs.Common.{◌≡◌}
use Rattle.language_values.specs.EqualSteps.{answer_of, answer_after}
use Rattle.language_values.specs.ValuesEqual.{unlocated_eq}
use Rattle.language_values.proofs.value.compare.Given as goal

-- what is left to be compared answers for both values
abbrev pub invariant-loop : goal.invariant-loop
invariant-loop g l = answer_after g.S.PartialEq.eq l.waiting.items (answer_of g.S.PartialEq.eq l.comparison) ≡ unlocated_eq g.S.PartialEq.eq l.left l.right
