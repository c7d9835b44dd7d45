use Rattle.std.proofs.Common.{subst, sym}
use Rattle.std.proofs.lemmas.Result.{IfOk-weaker}
use Rattle.events.specs.EventValue.{typed_event}
use Rattle.walk.specs.ContextState.{scope_of_context, typing}
use Rattle.rules_document.specs.AtDocument.{document_step}
use Rattle.rules_merge.specs.OverlappingFieldsCanBeMerged.{merge_errors}
use Rattle.rules_merge.proofs.overlapping_fields_can_be_merged.OverlappingFieldsCanBeMergedVisitor.on.Goals as goal

pub returns-in_ok-cycles-in-ExitDocument-clause-stepped : goal.returns-in_ok-cycles-in-ExitDocument-clause-stepped
returns-in_ok-cycles-in-ExitDocument-clause-stepped g c =
    let w = c.args.ctx.now in
    IfOk-weaker c.leave.result _ _
    (λ _ h.
    let (es, told, e) = h in (
      es,
      subst (λ v. document_step (merge_errors g.S.PartialEq.eq) (scope_of_context w) (typed_event v (typing w)) c.args.self.now c.leave.new.self es) (sym c.in-ExitDocument.is) told,
      e,
    ))
    c.leave.ensures.ok
