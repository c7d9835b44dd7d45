use Rattle.std.proofs.Common.{◌≡◌, ◌++◌, take}
use Rattle.std.specs.List.{flat_map}
use Rattle.lint_report.specs.Json.{issue_tokens}
use Rattle.lint_report.proofs.json_report.write_issues.Given as goal

-- the errors so far were told
abbrev pub invariant-loop-issue : goal.invariant-loop-issue
invariant-loop-issue l = l.out ≡ l.fn.out ++ flat_map (issue_tokens l.sources) (take l.issue-index l.issues)
