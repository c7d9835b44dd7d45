use Rattle.std.proofs.Common.{◌≡◌, [], refl, Bor}
use Rattle.language.specs.declared.tree.Fragment.{Fragment}
use Rattle.events.specs.declared.event.Event.{Event}
use Rattle.events.specs.declared.event.Event.TheVariants as event
use Rattle.events.specs.EventValue.{typed_event}
use Rattle.events.specs.Node.{Placed}
use Rattle.events.specs.Typing.{Typing}
use Rattle.walk.specs.ContextState.{DocumentScope, scope_of_context, typing}
use Rattle.rules_support.specs.Noting.{noting_step}
use Rattle.rules_support.specs.FirstPlaces.{places_of}
use Rattle.rules_support.proofs.Reported.{reports_none}
use Rattle.rules_fragments.specs.UniqueFragmentNames.{fragment_name, repeated_fragment_message}
use Rattle.rules_fragments.specs.declared.unique_fragment_names.UniqueFragmentNames.{UniqueFragmentNames}
use Rattle.rules_fragments.proofs.unique_fragment_names.UniqueFragmentNamesVisitor.on.Goals as goal

-- where no fragment is entered nothing is noted
passed_over : {S C : Type 0} (e : Event S) (t : Typing S C) (scope : DocumentScope S C) (a : UniqueFragmentNames) → ((f : Bor (Placed (Fragment S))) → e ≡ event.EnterFragmentDefinition f → ⊥)
    → noting_step (λ n. places_of n.names) repeated_fragment_message fragment_name scope (typed_event e t) a a []
passed_over (event.EnterFragmentDefinition f) t scope a other = absurd (other f refl)
passed_over _ t scope a other = (refl, refl)

pub returns-in_default : goal.returns-in_default
returns-in_default g c =
    let w = c.args.ctx.now in
    record { stepped = ([], passed_over c.args.event.now (typing w) (scope_of_context w) c.args.self.now c.in_default.not-EnterFragmentDefinition, reports_none w); err = tt }
