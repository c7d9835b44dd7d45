use Rattle.std.proofs.Common.{◌∙◌, ◌∷◌, [], ap}
use Rattle.std.proofs.lemmas.Result.{IfOk-weaker}
use Rattle.error_report.specs.Json.{report_text}
use Rattle.answers.proofs.reports.refusal.Goals as goal

pub returns : goal.returns
returns g c =
    let message = c.as_str.result.now in
    IfOk-weaker c.report.result _ _
    (λ written h. record {
      message = message;
      report_is = h ∙ ap (report_text c.args.text.now) (c.from_ref-2.ensures.value ∙ ap (λ e. e ∷ []) (c.in_ok-error.ensures ∙ ap (λ places. record { locations = places; message = message }) c.from_ref.ensures.value));
    })
    c.report.ensures
