use Rattle.std.proofs.lemmas.Result.{on_ok_weaker}
use Rattle.walk_examples.proofs.linter.try_rule.Goals as goal

pub returns : goal.returns
returns g c =
    on_ok_weaker c.visit.result (λ r known. (_, c.rules_append.ensures.alone _ _ _ _ _ (rw c.with-rules.ensures c.requires) known r)) c.visit.ensures.ran
