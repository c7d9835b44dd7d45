use Rattle.std.proofs.Common.{string_bytes, subst}
use Rattle.std.proofs.lemmas.Result.{IfOk-weaker}
use Rattle.lint_report.specs.Texts.{IsTextReport}
use Rattle.lint_app.proofs.PlainText.{on_some}
use Rattle.lint_app.proofs.program.plain_text_of.Goals as goal

-- some files
pub returns : goal.returns
returns c =
    IfOk-weaker c.text_report.result _ _ (
    λ text h. on_some c.args.files c.args.is_coloured c.args.sources.now c.args.issues.now c.args.judged (string_bytes text) c.if-files-eq0.false
    (subst (λ n. IsTextReport c.args.is_coloured c.args.sources.now c.args.issues.now c.args.judged n (string_bytes text)) c.saturating_sub-unjudged.ensures h)
    ) c.text_report.ensures.told
