use Rattle.std.proofs.Common.{◌∷◌, [], ◌++◌, ◌∙◌, inr, map, refl, ap}
use Rattle.std.proofs.lemmas.Result.{IfOk-weaker}
use Rattle.walk.specs.ContextState.{with_errors}
use Rattle.walk.proofs.Kept.{with_more}
use Rattle.merge_conflicts.specs.Texts.{errors_of}
use Rattle.rules_merge.specs.OverlappingFieldsCanBeMerged.{error_value, stop_error}
use Rattle.rules_merge.proofs.overlapping_fields_can_be_merged.report_found.Goals as goal

pub returns-clause-ok : goal.returns-clause-ok
returns-clause-ok g c = λ rs ts found are.
    let old = c.args.ctx.now in
    let es = map error_value (errors_of g.S.PartialEq.eq old.schema ts) in
    let kept = c.in_ok-report_conflicts.ensures.ok rs ts found are in
    IfOk-weaker c.report_stop.result _ _
    (λ x stopped. (
      es ++ stop_error ∷ [],
      inr (c.if-is_finished.ensures.stopped.0, c.if-is_finished.ensures.stopped.1, refl),
      stopped ∙ ap (λ w. with_errors w (stop_error ∷ [])) kept ∙ with_more old es (stop_error ∷ []),
    ))
    c.report_stop.ensures.ok
