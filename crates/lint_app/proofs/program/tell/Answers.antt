use Rattle.lint_app.proofs.Endings.{part_none}
use Rattle.lint_app.proofs.program.tell.Goals as goal

-- the faults were not written
pub returns-in-Err-clause-part : goal.returns-in-Err-clause-part
returns-in-Err-clause-part g c = part_none _ _
