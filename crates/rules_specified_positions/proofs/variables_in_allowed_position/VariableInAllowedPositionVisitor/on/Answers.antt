use Rattle.std.proofs.Common.{subst, sym}
use Rattle.std.proofs.lemmas.Result.{IfOk-weaker}
use Rattle.events.specs.EventValue.{typed_event}
use Rattle.walk.specs.ContextState.{scope_of_context, typing}
use Rattle.rules_positions.specs.Recording.{recording_step}
use Rattle.rules_specified_positions.specs.PlacedUses.{next_uses}
use Rattle.rules_specified_positions.specs.VariablesInAllowedPosition.{DocumentGives, given_by_uses, recorded_uses}
use Rattle.rules_specified_uses.specs.ValueUses.{use_values}
use Rattle.rules_specified_positions.proofs.variables_in_allowed_position.VariableInAllowedPositionVisitor.on.Goals as goal

pub returns-in_ok-index-in-ExitDocument-clause-stepped : goal.returns-in_ok-index-in-ExitDocument-clause-stepped
returns-in_ok-index-in-ExitDocument-clause-stepped g c =
    let w = c.args.ctx.now in
    let rule = c.args.self.now in
    IfOk-weaker c.report_document.result _ _
    (λ _ (es, p, e). (
      es,
      subst (λ v. recording_step recorded_uses next_uses given_by_uses (scope_of_context w) (typed_event v (typing w)) rule rule es) (sym c.in-ExitDocument.is)
          (subst (λ us. DocumentGives w.schema.types c.in-ExitDocument.document.now (use_values us) es) c.as_slice-uses.ensures.value p),
      e,
    ))
    c.report_document.ensures.ok
