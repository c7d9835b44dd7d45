use Rattle.std.proofs.Common.{◌∙◌, ◌++◌, ap, string_bytes}
use Rattle.lint_report.specs.Github.{message_text, place_properties, property_text}
use Rattle.lint_report.proofs.InARow.{six_added}
use Rattle.lint_report.proofs.github_report.write_issue.Goals as goal

-- the parts were written one after the other
pub returns : goal.returns
returns c =
    let path = c.in_ok-write_property.ensures ∙ ap (λ path. string_bytes c.push_str.new.self ++ property_text path) c.path_of.ensures in
    let place = c.in_ok-write_place.ensures ∙ ap (λ places. string_bytes c.write_property.new.text ++ place_properties c.args.sources.now places) c.as_slice.ensures.value in
    let message = c.in_ok-write_message.ensures ∙ ap (λ message. string_bytes c.push_str-2.new.self ++ message_text message) c.as_str.ensures.value in
    six_added (string_bytes c.args.text.now) _ _ _ _ _ _ _ _ _ _ _ _ c.in_ok-push_str.ensures.bytes path place c.in_ok-push_str-2.ensures.bytes message c.in_ok-push_str-3.ensures.bytes
