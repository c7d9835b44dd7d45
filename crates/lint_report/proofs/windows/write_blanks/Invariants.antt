use Rattle.std.proofs.Common.{◌≡◌, ◌++◌, string_bytes}
use Rattle.lint_report.specs.Windows.{blanks}
use Rattle.lint_report.proofs.windows.write_blanks.Given as goal

-- blanks were written for each character so far
abbrev pub invariant-loop-character : goal.invariant-loop-character
invariant-loop-character l = string_bytes l.text ≡ string_bytes l.initial.text ++ blanks l.yielded
