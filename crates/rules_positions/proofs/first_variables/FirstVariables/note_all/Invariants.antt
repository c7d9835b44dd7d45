use Rattle.std.proofs.Common.{take}
use Rattle.rules_positions.specs.FirstVariables.{Notes}
use Rattle.rules_positions.proofs.first_variables.FirstVariables.note_all.Given as goal

-- those that were seen are noted
abbrev pub invariant-loop-entry : goal.invariant-loop-entry
invariant-loop-entry g l = Notes (take l.entry-index l.entries) l.fn.self l.self
