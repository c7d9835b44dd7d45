use Rattle.std.proofs.Common.{refl}
use Rattle.answers.proofs.bytes.not_utf8.Goals as goal

pub returns : goal.returns
returns c = (refl, c.in_ok-report.ensures)
