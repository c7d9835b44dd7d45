use Rattle.std.proofs.Common.{refl}
use Rattle.sdl_mending.specs.Touched.{has_type}
use Rattle.type_system_report.specs.Fault.{fault_value}
use Rattle.sdl_faults.specs.Apart.{is_apart}
use Rattle.sdl_faults.proofs.Tells.{kept_next}
use Rattle.sdl_faults.proofs.apart.apart_of.Goals as goal

pub loop-fault-preserved : goal.loop-fault-preserved
loop-fault-preserved c =
    kept_next (is_apart (has_type c.args.touched.now)) fault_value c.args.faults.now c.loop-fault.fault-index _ _ _ _ c.loop-fault-test.true refl c.loop-fault.invariant c.in_ok-add_if_apart.ensures
