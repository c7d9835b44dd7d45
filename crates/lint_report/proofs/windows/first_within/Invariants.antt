use Rattle.std.proofs.Common.{length}
use denote.Shadow.{shadow}
use denote.Text.{Utf8}
use Rattle.lint_report.proofs.Columns.{Takes}
use Rattle.lint_report.proofs.windows.first_within.Given as goal

-- the beginning so far fits
abbrev pub invariant-loop-first : goal.invariant-loop-first
invariant-loop-first l = shadow (Utf8 l.rest) × Takes l.text l.rest l.room l.left

abbrev pub decreases-loop-first : goal.decreases-loop-first
decreases-loop-first l = length l.rest
