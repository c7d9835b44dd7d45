use Rattle.std.proofs.Common.{take}
use Rattle.std.specs.List.{flat_map}
use Rattle.rules_positions.specs.DefinedVariables.{variables_at}
use Rattle.rules_positions.specs.FirstVariables.{KeepsFirst}
use Rattle.rules_positions.proofs.first_variables.FirstVariables.at.Given as goal

-- those at the places that were seen are kept
abbrev pub invariant-loop-place : goal.invariant-loop-place
invariant-loop-place g l = KeepsFirst (flat_map (variables_at l.document) (take l.place-index l.places)) l.variables
