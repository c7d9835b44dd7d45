use Rattle.sdl_faults.proofs.Tells.{tells_next}
use Rattle.sdl_faults.proofs.telling.tell_each.Goals as goal

-- one more is told
pub loop-fault-preserved : goal.loop-fault-preserved
loop-fault-preserved g c =
    tells_next (g.F.Tell.telling c.args.document.now) c.args.faults.now c.loop-fault.fault-index c.fault-item.result _ c.args.told.now.items c.loop-fault.told.items c.tell.new.told.items c.loop-fault-test.true c.fault-item.is c.loop-fault.invariant c.in_ok-tell.ensures
