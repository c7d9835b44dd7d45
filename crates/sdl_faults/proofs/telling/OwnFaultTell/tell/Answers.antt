use Rattle.std.proofs.lemmas.Result.{on_ok_weaker}
use Rattle.sdl_faults.proofs.Tells.{tells_value}
use Rattle.sdl_faults.proofs.telling.OwnFaultTell.tell.Goals as goal

pub returns : goal.returns
returns c = on_ok_weaker c.tell_there.result (tells_value _ _ _ _ _) c.tell_there.ensures
