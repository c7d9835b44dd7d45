use Rattle.std.proofs.Common.{◌≡◌, string_bytes, take}
use Rattle.check_app.specs.Report.{error_lines}
use Rattle.check_app.proofs.report.print_errors.Given as goal

-- the errors so far were written
abbrev pub invariant-loop-error : goal.invariant-loop-error
invariant-loop-error l = string_bytes l.text ≡ error_lines (take l.error-index l.errors)
