use Rattle.std.proofs.Common.{subst, sym}
use Rattle.std.proofs.lemmas.Result.{IfOk-weaker}
use Rattle.events.specs.EventValue.{typed_event}
use Rattle.walk.specs.ContextState.{scope_of_context, typing}
use Rattle.rules_document.specs.AtDocument.{document_step}
use Rattle.rules_document.specs.NoFragmentCycles.{cycle_errors}
use Rattle.rules_document.proofs.no_fragment_cycles.NoFragmentCyclesVisitor.on.Goals as goal

pub returns-in_ok-graph-in-ExitDocument-clause-stepped : goal.returns-in_ok-graph-in-ExitDocument-clause-stepped
returns-in_ok-graph-in-ExitDocument-clause-stepped g c =
    let w = c.args.ctx.now in
    IfOk-weaker c.leave.result _ _
    (λ _ h.
    let (es, p, e) = h c.in-ExitDocument.document.now c.in_ok-graph-in-ExitDocument.ensures in (
      es,
      subst (λ v. document_step cycle_errors (scope_of_context w) (typed_event v (typing w)) c.args.self.now c.leave.new.self es) (sym c.in-ExitDocument.is) p,
      e,
    ))
    c.leave.ensures.ok
