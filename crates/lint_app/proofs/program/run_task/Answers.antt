use Rattle.std.proofs.Common.{[], arith, inl, refl}
use Rattle.lint_app.proofs.Endings.{part_none}
use Rattle.lint_app.proofs.program.run_task.Goals as goal

-- the standard input is named twice
pub returns-then-inputs-gt1-clause-ended : goal.returns-then-inputs-gt1-clause-ended
returns-then-inputs-gt1-clause-ended g c = λ early. ([], inl (omega (arith, c.inputs.ensures, c.if-inputs-gt1.true), refl), part_none [] _)
