use Rattle.std.proofs.Common.{◌∙◌, ◌++◌, ◌∷◌, [], ap, string_bytes, sym, take}
use Rattle.std.proofs.lemmas.List.{flat_map_more, take_more}
use Rattle.std.specs.List.{flat_map}
use Rattle.lint_report.specs.Github.{issue_command}
use Rattle.lint_report.proofs.github_report.write_issues.Goals as goal

-- one more was written
pub loop-issue-preserved : goal.loop-issue-preserved
loop-issue-preserved c =
    let issues = c.args.issues.now in
    let issue = c.issue-item.result in
    let next = ap (λ x. take c.loop-issue.issue-index issues ++ x ∷ []) c.issue-item.is ∙ sym (take_more issues c.loop-issue.issue-index issue c.loop-issue-test.true) in
    c.in_ok-write_issue.ensures
    ∙ ap (λ text. text ++ (issue_command c.args.sources.now) issue) c.loop-issue.invariant
    ∙ flat_map_more (issue_command c.args.sources.now) (string_bytes c.args.text.now) (take c.loop-issue.issue-index issues) issue ∙ ap (λ shown. string_bytes c.args.text.now ++ flat_map (issue_command c.args.sources.now) shown) next
