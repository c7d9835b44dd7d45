use Rattle.std.proofs.Common.{◌∙◌, ◌++◌, ap, codes}
use Rattle.lint_report.specs.Json.{text_member}
use Rattle.lint_report.proofs.InARow.{six_added}
use Rattle.lint_report.proofs.json_report.write_issue.Goals as goal

-- the members were written one after the other
pub returns : goal.returns
returns c =
    let path = c.in_ok-write_text.ensures ∙ ap (λ text. c.token.new.self ++ text_member (codes "path") text) c.path_of.ensures in
    let message = c.in_ok-write_text-2.ensures ∙ ap (λ text. c.write_text.new.out ++ text_member (codes "message") text) c.as_str.ensures.value in
    six_added c.args.out.now _ _ _ _ _ _ _ _ _ _ _ _ c.in_ok-token.ensures.ok path message c.in_ok-token-2.ensures.ok c.in_ok-write_locations.ensures c.in_ok-token-3.ensures.ok
