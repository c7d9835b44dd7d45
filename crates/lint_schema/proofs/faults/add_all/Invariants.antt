use Rattle.std.proofs.Common.{take}
use Rattle.lint_schema.specs.Told.{AddsFaults}
use Rattle.lint_schema.proofs.faults.add_all.Given as goal

-- the faults so far were told
abbrev pub invariant-loop-placed : goal.invariant-loop-placed
invariant-loop-placed l = AddsFaults l.sources l.joined (take l.placed-index l.found) l.initial.faults.items l.faults.items
