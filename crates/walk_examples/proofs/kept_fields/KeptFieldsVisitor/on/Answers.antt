use Rattle.std.proofs.Common.{[], refl, rules, subst, sym}
use Rattle.events.specs.EventValue.{typed_event}
use Rattle.walk.specs.ContextState.{typing, scope_of_context}
use Rattle.walk.specs.Entering.{keeping_step, nothing_on_the_way}
use Rattle.walk_examples.proofs.MoreFields.{more_fields}
use Rattle.walk_examples.specs.KeptFields.{fields_kept, next_fields}
use Rattle.walk_examples.proofs.kept_fields.KeptFieldsVisitor.on.Goals as goal

pub returns-in_ok-push-clause-stepped : goal.returns-in_ok-push-clause-stepped
returns-in_ok-push-clause-stepped g c = (
  [],
  subst (λ e. keeping_step fields_kept next_fields nothing_on_the_way (scope_of_context c.args.ctx.now) (typed_event e (typing c.args.ctx.now)) c.args.self.now (record { fields = c.push.new.self }) []) (sym c.in-EnterField.is)
      (more_fields c.args.self.now (record { fields = c.push.new.self }) _ c.in_ok-push.ensures.items, refl),
  search rules,
)
