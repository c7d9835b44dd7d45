use Rattle.std.proofs.Common.{arith}
use Rattle.lint_report.proofs.Columns.{eight_blanks}
use Rattle.lint_report.proofs.windows.blank_for.Goals as goal

-- it takes eight columns
pub returns-in_default : goal.returns-in_default
returns-in_default c = eight_blanks c.args.character c.columns.result c.if-character-eq9.false c.columns.ensures.value (omega arith)
