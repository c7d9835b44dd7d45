use Rattle.sdl_own_faults.specs.ReservedNames.{reserved_value}
use Rattle.sdl_own_faults.proofs.Reported.{reports_next}
use Rattle.sdl_own_faults.proofs.members.report_values.Goals as goal

pub loop-value-preserved : goal.loop-value-preserved
loop-value-preserved c =
    reports_next (reserved_value c.args.of.now) c.args.values.now c.loop-value.value-index c.value-item.result _ _ _ _ c.loop-value-test.true c.value-item.is c.loop-value.invariant c.in_ok-report_reserved_name.ensures
