use Rattle.std.proofs.Common.{[], ◌∙◌, refl, ap, sym, subst}
use Rattle.events.specs.EventValue.{typed_event}
use Rattle.walk.specs.ContextState.{scope_of_context, typing}
use Rattle.walk.specs.Entering.{prepared_step}
use Rattle.rules_support.proofs.Reported.{reports_none}
use Rattle.rules_fragments.specs.Conditions.{conditions_of}
use Rattle.rules_fragments.specs.PossibleFragmentSpreads.{conditions, impossible_spreads}
use Rattle.rules_fragments.specs.declared.possible_fragment_spreads.PossibleFragmentSpreads.{PossibleFragmentSpreads}
use Rattle.rules_fragments.proofs.possible_fragment_spreads.PossibleFragmentSpreadsVisitor.on.Goals as goal

pub returns-in_ok-self-in-EnterDocument-clause-stepped : goal.returns-in_ok-self-in-EnterDocument-clause-stepped
returns-in_ok-self-in-EnterDocument-clause-stepped g c =
    let w = c.args.ctx.now in
    let ready : PossibleFragmentSpreads g.row.S.Denot g.row.S-Check.Denot = record { alloc = c.args.self.now.alloc; conditions = c.in_ok-self-in-EnterDocument.field-0 } in (
      [],
      subst (λ e. prepared_step (λ a. conditions_of a.conditions) conditions impossible_spreads (scope_of_context w) (typed_event e (typing w)) c.args.self.now ready []) (sym c.in-EnterDocument.is)
          (c.in_ok-self-in-EnterDocument.ensures ∙ ap (λ z. conditions (scope_of_context z) c.in-EnterDocument.document.now) c.ctx.view_is, refl),
      reports_none w,
    )
