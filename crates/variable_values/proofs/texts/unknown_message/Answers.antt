use Rattle.std.proofs.Common.{◌∙◌}
use Rattle.std.proofs.lemmas.Result.{IfOk-weaker}
use Rattle.variable_values.specs.Places.{before}
use Rattle.variable_values.proofs.Told.{unknown-told}
use Rattle.variable_values.proofs.texts.unknown_message.Goals as goal

pub returns : goal.returns
returns c = IfOk-weaker c.told_of_key.result _ _ (λ t e. e ∙ unknown-told (before c.args.place.now) c.args.key.now) c.told_of_key.ensures
