use Rattle.std.proofs.Common.{refl}
use Rattle.events.proofs.cursor.entered_definition.Goals as goal

pub returns-in-Operation : goal.returns-in-Operation
returns-in-Operation g c = rw c.in-Operation.is (λ t. refl)

pub returns-in-Fragment : goal.returns-in-Fragment
returns-in-Fragment g c = rw c.in-Fragment.is (λ t. refl)
