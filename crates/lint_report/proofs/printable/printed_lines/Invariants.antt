use Rattle.std.proofs.Common.{◌≡◌, string_bytes}
use Rattle.std.specs.List.{flat_map}
use Rattle.lint_report.specs.Printable.{printed_in_lines}
use Rattle.lint_report.proofs.printable.printed_lines.Given as goal

-- the characters so far were written
abbrev pub invariant-loop-character : goal.invariant-loop-character
invariant-loop-character l = string_bytes l.text ≡ flat_map printed_in_lines l.yielded
