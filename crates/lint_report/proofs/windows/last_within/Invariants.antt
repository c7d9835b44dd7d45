use Rattle.std.proofs.Common.{length}
use denote.Shadow.{shadow}
use denote.Text.{Utf8}
use Rattle.lint_report.proofs.Columns.{Keeps}
use Rattle.lint_report.proofs.windows.last_within.Given as goal

-- the end so far fits
abbrev pub invariant-loop-before : goal.invariant-loop-before
invariant-loop-before l = shadow (Utf8 l.front) × Keeps l.text l.front l.room l.left

abbrev pub decreases-loop-before : goal.decreases-loop-before
decreases-loop-before l = length l.front
