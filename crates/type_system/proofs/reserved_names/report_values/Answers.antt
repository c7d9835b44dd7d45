use Rattle.std.proofs.Common.{◌++◌, ap, ◌∙◌}
use Rattle.type_system_report.specs.declared.fault.CoordinateOf.TheVariants as k
use Rattle.type_system_report.specs.Fault.{reported}
use Rattle.type_system.specs.ReservedNames.{reserved_value, reserved_name}
use Rattle.type_system_report.proofs.Reported.{reports_next}
use Rattle.type_system.proofs.reserved_names.report_values.Goals as goal

pub loop-value-preserved : goal.loop-value-preserved
loop-value-preserved c =
    reports_next (reserved_value c.args.of.now) c.args.values.now c.loop-value.value-index c.value-item.result _ _ _ _ c.loop-value-test.true c.value-item.is c.loop-value.invariant (c.in_ok-report_reserved.ensures ∙ ap (λ z. reported c.loop-value.faults ++ reserved_name (k.EnumValue c.args.of.now z)) c.as_str.ensures.value)
