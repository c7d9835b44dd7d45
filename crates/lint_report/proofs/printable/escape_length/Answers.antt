use Rattle.std.proofs.Common.{arith, sym}
use Rattle.lint_report.proofs.Escapes.{escape_four, escape_one, escape_three, escape_two, hidden_small}
use Rattle.lint_report.proofs.printable.escape_length.Goals as goal

-- by the number of digits
pub returns-then-code-lt16-clause-length : goal.returns-then-code-lt16-clause-length
returns-then-code-lt16-clause-length c = λ hidden. sym (escape_one c.args.character (omega (arith, c.from-code.ensures, c.if-code-lt16.true)))

pub returns-then-code-lt256-clause-length : goal.returns-then-code-lt256-clause-length
returns-then-code-lt256-clause-length c = λ hidden. sym (escape_two c.args.character (omega (arith, c.from-code.ensures, c.if-code-lt16.false)) (omega (arith, c.from-code.ensures, c.if-code-lt256.true)))

pub returns-then-code-lt4096-clause-length : goal.returns-then-code-lt4096-clause-length
returns-then-code-lt4096-clause-length c = λ hidden. sym (escape_three c.args.character (omega (arith, c.from-code.ensures, c.if-code-lt256.false)) (omega (arith, c.from-code.ensures, c.if-code-lt4096.true)))

pub returns-else-code-lt4096-clause-length : goal.returns-else-code-lt4096-clause-length
returns-else-code-lt4096-clause-length c = λ hidden. sym (escape_four c.args.character (omega (arith, c.from-code.ensures, c.if-code-lt4096.false)) (hidden_small c.args.character hidden))
