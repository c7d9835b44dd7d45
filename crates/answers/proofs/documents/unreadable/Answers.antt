use Rattle.std.proofs.Common.{refl}
use Rattle.answers.proofs.documents.unreadable.Goals as goal

pub returns : goal.returns
returns c = record { verdict_is = refl; refused = c.in_ok-report.ensures }
