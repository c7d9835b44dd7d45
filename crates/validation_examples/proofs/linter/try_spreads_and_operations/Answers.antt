use Rattle.std.proofs.lemmas.Result.{on_ok_weaker}
use Rattle.validation_examples.proofs.linter.try_spreads_and_operations.Goals as goal

pub returns : goal.returns
returns g c = on_ok_weaker c.visit.result (λ r known. c.rules_append.ensures.list c.with-rules.result c.visit.new.v _ _ _ (tt, (tt, tt)) known r) c.visit.ensures.ran
