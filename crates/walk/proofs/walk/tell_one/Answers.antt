use Rattle.std.proofs.lemmas.Result.{IfOk-weaker}
use Rattle.events.specs.EventValue.{typed_event, typing_of}
use Rattle.walk.proofs.Runs.{Stepped-pushed}
use Rattle.walk.proofs.walk.tell_one.Goals as goal

pub returns-clause-stepped : goal.returns-clause-stepped
returns-clause-stepped g c =
    IfOk-weaker c.tell_here-done.result _ _ (λ _ s. Stepped-pushed g.V.Machine.step (typed_event c.args.event.now) (typing_of c.args.types) _ _ _ _ _ _ c.in_ok-push_types.ensures.ok s c.pop_types.ensures) c.tell_here-done.ensures.stepped
