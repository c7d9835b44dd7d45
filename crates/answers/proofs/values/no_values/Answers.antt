use Rattle.std.proofs.Common.{refl}
use Rattle.answers.proofs.values.no_values.Goals as goal

pub returns : goal.returns
returns c = record { verdict_is = refl; position = c.in-Some.position; refused = c.in_ok-report.ensures }
