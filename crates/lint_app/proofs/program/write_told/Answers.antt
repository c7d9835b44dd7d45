use Rattle.lint_app.proofs.Endings.{part_of}
use Rattle.lint_app.proofs.program.write_told.Goals as goal

-- the report was written, whole or in part
pub returns-in-Ok-clause-part : goal.returns-in-Ok-clause-part
returns-in-Ok-clause-part g c = part_of _ _ _ _ c.as_str.ensures.value c.write_text.ensures.part

pub returns-in-Err-clause-part : goal.returns-in-Err-clause-part
returns-in-Err-clause-part g c = part_of _ _ _ _ c.as_str.ensures.value c.write_text.ensures.part
