use Rattle.std.proofs.Common.{◌∙◌, string_bytes, subst, sym}
use Rattle.std.proofs.lemmas.Result.{on_ok_weaker}
use Rattle.lint_report.specs.Texts.{Adds, IsErrorText}
use Rattle.lint_report.proofs.Texts.{placed_added}
use Rattle.lint_report.proofs.text_report.write_issue.Goals as goal

-- the error and its notes were written
pub returns : goal.returns
returns c =
    let places = sym c.as_slice.ensures.value ∙ c.in-Some.ensures.cases.0 in
    let error = subst (λ message. Adds (IsErrorText c.args.is_coloured c.args.sources.now c.in-Some.first.now message) (string_bytes c.args.text.now) (string_bytes c.write_error.new.text)) c.as_str-2.ensures.value c.in_ok-write_error.ensures in
    on_ok_weaker _ (placed_added c.args.is_coloured c.args.sources.now c.args.issue.now.file (string_bytes c.args.issue.now.message) c.in-Some.first.now c.in-Some.others.now _ _ _ _ places error) c.write_notes.ensures
