use Rattle.std.proofs.lemmas.Result.{IfOk-weaker}
use Rattle.walk.proofs.Walks.{Ran-document}
use Rattle.walk.proofs.walk.walk_with.Goals as goal

pub returns-clause-ran : goal.returns-clause-ran
returns-clause-ran g c =
    IfOk-weaker c.tell_one-2.result _ _ (λ _ s. Ran-document g.V.Machine.step c.args.document.now _ _ _ _ _ _ _ _ _ _ c.types-types.ensures c.in_ok-tell_one.ensures.stepped c.in_ok-visit_definitions.ensures.ran s) c.tell_one-2.ensures.stepped
