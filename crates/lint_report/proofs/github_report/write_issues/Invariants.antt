use Rattle.std.proofs.Common.{◌≡◌, ◌++◌, string_bytes, take}
use Rattle.std.specs.List.{flat_map}
use Rattle.lint_report.specs.Github.{issue_command}
use Rattle.lint_report.proofs.github_report.write_issues.Given as goal

-- those so far were written
abbrev pub invariant-loop-issue : goal.invariant-loop-issue
invariant-loop-issue l = string_bytes l.text ≡ string_bytes l.initial.text ++ flat_map (issue_command l.sources) (take l.issue-index l.issues)
