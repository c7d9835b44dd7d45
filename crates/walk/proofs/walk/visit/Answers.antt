use Rattle.std.proofs.Common.{sym}
use Rattle.walk.proofs.walk.visit.Goals as goal

pub returns-clause-ran : goal.returns-clause-ran
returns-clause-ran g c = rw (sym c.shorten.ensures) c.walk_with.ensures.ran
