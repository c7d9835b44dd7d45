use Rattle.std.proofs.Common.{refl}
use Rattle.events.proofs.cursor.entered_entry.Goals as goal

pub returns : goal.returns
returns g c = λ t. refl
