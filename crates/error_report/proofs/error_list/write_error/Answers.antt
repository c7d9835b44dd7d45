use Rattle.std.proofs.Common.{◌∙◌, ◌++◌, ap, codes}
use Rattle.error_report.specs.Json.{locations_tokens}
use Rattle.lint_report.proofs.InARow.{five_added}
use Rattle.lint_report.specs.Json.{text_member}
use Rattle.error_report.proofs.error_list.write_error.Goals as goal

-- the members were written one after the other
pub returns : goal.returns
returns c =
    let message = c.in_ok-write_message.ensures ∙ ap (λ text. c.token.new.self ++ text_member (codes "message") text) c.message.ensures in
    let locations = c.in_ok-write_locations.ensures ∙ ap (λ all. c.token-2.new.self ++ locations_tokens c.args.text.now all) c.locations.ensures in
    five_added c.args.out.now _ _ _ _ _ _ _ _ _ _ c.in_ok-token.ensures.ok message c.in_ok-token-2.ensures.ok locations c.in_ok-token-3.ensures.ok
