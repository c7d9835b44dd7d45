use Rattle.std.proofs.lemmas.Result.{on_ok_weaker}
use Rattle.validation_examples.proofs.linter.try_spreads.Goals as goal

pub returns : goal.returns
returns g c = on_ok_weaker c.visit.result (λ r known. c.rules_append.ensures.alone _ _ _ _ _ tt known r) c.visit.ensures.ran
