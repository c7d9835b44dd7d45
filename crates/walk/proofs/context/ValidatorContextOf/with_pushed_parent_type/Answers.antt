use Rattle.std.proofs.Common.{◌∙◌, ap, subst}
use Rattle.std.specs.Prelude.{IfOk}
use Rattle.walk.specs.Calls.{CalledAt}
use Rattle.walk.specs.ContextState.{pushed}
use Rattle.events.specs.Typing.{at_set}
use Rattle.walk.proofs.context.ValidatorContextOf.with_pushed_parent_type.Goals as goal

-- f was called at these types
pub returns-clause-ok : goal.returns-clause-ok
returns-clause-ok g c =
    subst (λ z. IfOk c.with_types.result (CalledAt g.F.FnOnce c.args.f (pushed c.args.self.now z) c.with_types.new.self))
    (c.at_set-types.ensures ∙ ap at_set c.types.ensures)
    c.with_types.ensures.ok
