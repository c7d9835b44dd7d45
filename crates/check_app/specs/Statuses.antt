-- The exit statuses of failures.
use Rattle.std.specs.Prelude.{ℕ}
use Rattle.check_app.specs.declared.failure.Failure.{Failure}
use Rattle.check_app.specs.declared.failure.Failure.TheVariants as f

abbrev pub status_of : Failure → ℕ
status_of (f.Syntax place) = 2
status_of f.OutOfMemory = 3
status_of f.Usage = 4
status_of f.InputOutput = 5
