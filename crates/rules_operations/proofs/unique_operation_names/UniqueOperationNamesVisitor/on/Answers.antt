use Rattle.std.proofs.Common.{◌≡◌, [], refl, Bor}
use Rattle.language.specs.declared.tree.Operation.{Operation}
use Rattle.events.specs.declared.event.Event.{Event}
use Rattle.events.specs.declared.event.Event.TheVariants as event
use Rattle.events.specs.EventValue.{typed_event}
use Rattle.events.specs.Node.{Placed}
use Rattle.events.specs.Typing.{Typing}
use Rattle.walk.specs.ContextState.{DocumentScope, scope_of_context, typing}
use Rattle.rules_support.specs.Noting.{noting_step}
use Rattle.rules_support.specs.FirstPlaces.{places_of}
use Rattle.rules_support.proofs.Reported.{reports_none}
use Rattle.rules_operations.specs.UniqueOperationNames.{operation_name, repeated_operation_message}
use Rattle.rules_operations.specs.declared.unique_operation_names.UniqueOperationNames.{UniqueOperationNames}
use Rattle.rules_operations.proofs.unique_operation_names.UniqueOperationNamesVisitor.on.Goals as goal

-- where no operation is entered nothing is noted
passed_over : {S C : Type 0} (e : Event S) (t : Typing S C) (scope : DocumentScope S C) (a : UniqueOperationNames) → ((o : Bor (Placed (Operation S))) → e ≡ event.EnterOperationDefinition o → ⊥)
    → noting_step (λ n. places_of n.names) repeated_operation_message operation_name scope (typed_event e t) a a []
passed_over (event.EnterOperationDefinition o) t scope a other = absurd (other o refl)
passed_over _ t scope a other = (refl, refl)

pub returns-in_default : goal.returns-in_default
returns-in_default g c =
    let w = c.args.ctx.now in
    record { stepped = ([], passed_over c.args.event.now (typing w) (scope_of_context w) c.args.self.now c.in_default.not-EnterOperationDefinition, reports_none w); err = tt }
