use Rattle.std.proofs.Common.{[], string_bytes, take}
use Rattle.lint_report.specs.Texts.{Adds, AreTexts, IsIssueText}
use Rattle.lint_report.proofs.text_report.text_report.Given as goal

-- the errors so far were written
abbrev pub invariant-loop-issue : goal.invariant-loop-issue
invariant-loop-issue l = Adds (AreTexts (IsIssueText l.is_coloured l.sources) (take l.issue-index l.issues)) [] (string_bytes l.text)
