use Rattle.std.proofs.Common.{◌≡◌, string_bytes}
use Rattle.std.specs.List.{flat_map}
use Rattle.lint_report.specs.JsonEscapes.{escaped_character}
use Rattle.lint_report.proofs.json_escapes.escaped.Given as goal

-- the characters so far were written
abbrev pub invariant-loop-character : goal.invariant-loop-character
invariant-loop-character l = string_bytes l.text ≡ flat_map escaped_character l.yielded
