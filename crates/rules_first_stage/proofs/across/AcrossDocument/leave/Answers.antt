use Rattle.std.proofs.lemmas.Result.{IfOk-weaker}
use Rattle.rules_first_stage.proofs.AcrossSteps.{left}
use Rattle.rules_first_stage.proofs.across.AcrossDocument.leave.Goals as goal

pub returns-clause-stepped : goal.returns-clause-stepped
returns-clause-stepped g c =
    let document = c.args.document.now in
    IfOk-weaker c.leave-2.result _ _
    (λ _ cycles.
    left document c.args.self.now c.leave-2.new.self _ _ _ _ _ _ c.in_ok-leave.ensures.ok c.in_ok-report_unused.ensures.ok c.in_ok-report_unused-2.ensures.ok c.in_ok-report_undefined.ensures.ok
    (cycles document c.in_ok-index.ensures.scopes.graph))
    c.leave-2.ensures.ok
