use Rattle.std.proofs.Common.{refl}
use Rattle.events.proofs.cursor.left_entry.Goals as goal

pub returns : goal.returns
returns g c = λ t. refl
