use Rattle.std.proofs.Common.{[]}
use Rattle.lint_app.proofs.Endings.{part_none}
use Rattle.lint_app.proofs.program.write_request.Goals as goal

-- there was no memory for the text
pub returns-in_err-text : goal.returns-in_err-text
returns-in_err-text g c = ([], tt, part_none [] _)

-- the text was written, whole or in part
pub returns-in_err-write_text : goal.returns-in_err-write_text
returns-in_err-write_text g c = (c.as_str.result.now, tt, c.write_text.ensures.part)

pub returns : goal.returns
returns g c = (c.as_str.result.now, tt, c.write_text.ensures.part)
