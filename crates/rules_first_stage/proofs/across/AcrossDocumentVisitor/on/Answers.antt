use Rattle.std.proofs.Common.{subst, sym}
use Rattle.std.proofs.lemmas.Result.{IfOk-weaker}
use Rattle.events.specs.EventValue.{typed_event}
use Rattle.walk.specs.ContextState.{typing}
use Rattle.walk.specs.Step.{Stepped}
use Rattle.rules_first_stage.specs.Across.{across_step}
use Rattle.rules_first_stage.proofs.AcrossSteps.{heard}
use Rattle.rules_first_stage.proofs.across.AcrossDocumentVisitor.on.Goals as goal

pub returns-in-ExitDocument-clause-stepped : goal.returns-in-ExitDocument-clause-stepped
returns-in-ExitDocument-clause-stepped g c =
    let w = c.args.ctx.now in
    IfOk-weaker c.leave.result _ _
    (λ _ s. subst (λ v. Stepped across_step (typed_event v (typing w)) c.args.self.now c.leave.new.self w c.leave.new.ctx) (sym c.in-ExitDocument.is) s)
    c.leave.ensures.stepped

pub returns-in_default : goal.returns-in_default
returns-in_default g c = record {
  stepped = IfOk-weaker c.on.result _ _ (λ _ s. heard c.args.self.now c.args.ctx.now c.on.new.ctx c.args.event.now c.on.new.self c.in_default.not-ExitDocument s) c.on.ensures.stepped;
  err = c.on.ensures.err;
}
