use Rattle.type_system.specs.ReservedValues.{reserved_value}
use Rattle.type_system_report.proofs.Reported.{reports_next}
use Rattle.type_system.proofs.reserved_values.report_reserved_values.Goals as goal

pub loop-value-preserved : goal.loop-value-preserved
loop-value-preserved g c =
    reports_next (reserved_value c.type_name-of.result.now) c.enum_values-value-items.result.now c.loop-value.value-index c.value-item.result _ _ _ _ c.loop-value-test.true c.value-item.is c.loop-value.invariant c.in_ok-report_reserved_value.ensures
