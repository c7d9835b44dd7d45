use Rattle.std.proofs.Common.{◌≡◌, string_bytes, take}
use Rattle.conformance.specs.Told.{error_lines}
use Rattle.conformance.proofs.judge.lines_of.Given as goal

-- the errors so far were written
abbrev pub invariant-loop-error : goal.invariant-loop-error
invariant-loop-error l = string_bytes l.text ≡ error_lines (take l.error-index l.errors)
