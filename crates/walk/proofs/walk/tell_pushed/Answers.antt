use Rattle.std.proofs.lemmas.Result.{IfOk-weaker}
use Rattle.events.specs.EventValue.{typing_of}
use Rattle.walk.proofs.Runs.{Ran-pushed}
use Rattle.walk.proofs.walk.tell_pushed.Goals as goal

pub returns-clause-ran : goal.returns-clause-ran
returns-clause-ran g c =
    IfOk-weaker c.tell_all-done.result _ _ (λ _ r. Ran-pushed g.V.Machine.step _ (typing_of c.args.types) _ _ _ _ _ _ c.in_ok-push_types.ensures.ok r c.pop_types.ensures) c.tell_all-done.ensures.ran
