use Rattle.std.proofs.Common.{◌≡◌, string_bytes}
use Rattle.validation_examples.specs.Told.{error_lines}
use Rattle.validation_examples.proofs.told.lines.Given as goal

-- the errors so far were written
abbrev pub invariant-loop-error : goal.invariant-loop-error
invariant-loop-error l = string_bytes l.told ≡ error_lines l.yielded
