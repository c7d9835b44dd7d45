use Rattle.std.proofs.Common.{◌∙◌, ap, subst}
use Rattle.std.specs.Prelude.{IfOk}
use Rattle.std.specs.Option.{option_map}
use Rattle.language_types.specs.Types.{borrowed_shape}
use Rattle.walk.specs.Calls.{CalledAt}
use Rattle.walk.specs.ContextState.{typing, pushed}
use Rattle.events.specs.Typing.{at_type}
use Rattle.walk.proofs.context.ValidatorContextOf.with_pushed_type.Goals as goal

-- f was called at these types
pub returns-clause-ok : goal.returns-clause-ok
returns-clause-ok g c =
    subst (λ z. IfOk c.with_types.result (CalledAt g.F.FnOnce c.args.f (pushed c.args.self.now z) c.with_types.new.self))
    (c.at_type-types.ensures ∙ ap (λ t. at_type c.self.inside.schema.now t (option_map borrowed_shape c.args.t)) c.types.ensures ∙ ap (λ w. at_type w.schema (typing c.args.self.now) (option_map borrowed_shape c.args.t)) c.self.view_is)
    c.with_types.ensures.ok
