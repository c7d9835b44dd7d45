use Rattle.std.proofs.Common.{refl, subst, sym}
use Rattle.vorxindak.specs.Calls.{Opens, no_memory}
use Rattle.vorxindak.proofs.opening.open_closed.Goals as goal

-- the texts were read
pub returns-in-Ok : goal.returns-in-Ok
returns-in-Ok c = subst (Opens c.args.texts.now c.args.dialect c.in-Ok.field-0.status) (sym c.put.ensures) c.in-Ok.ensures

-- memory ran out
pub returns-in-Err : goal.returns-in-Err
returns-in-Err c = no_memory refl c.take.ensures.left
