use Rattle.std.proofs.Common.{take}
use Rattle.lint_schema.specs.Told.{HasAllFurther}
use Rattle.lint_schema.proofs.judging.add_others.Given as goal

-- those so far were added
abbrev pub invariant-loop-position : goal.invariant-loop-position
invariant-loop-position l = HasAllFurther l.sources l.joined (take l.position-index l.others) l.initial.fault l.fault
