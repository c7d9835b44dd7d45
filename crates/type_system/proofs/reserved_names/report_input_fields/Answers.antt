use Rattle.std.proofs.Common.{◌++◌, ap, ◌∙◌}
use Rattle.type_system_report.specs.declared.fault.CoordinateOf.TheVariants as k
use Rattle.type_system_report.specs.Fault.{reported}
use Rattle.type_system.specs.ReservedNames.{reserved_input_field, reserved_name}
use Rattle.type_system_report.proofs.Reported.{reports_next}
use Rattle.type_system.proofs.reserved_names.report_input_fields.Goals as goal

pub loop-field-preserved : goal.loop-field-preserved
loop-field-preserved g c =
    reports_next (reserved_input_field c.args.of.now) c.args.fields.now c.loop-field.field-index c.field-item.result _ _ _ _ c.loop-field-test.true c.field-item.is c.loop-field.invariant (c.in_ok-report_reserved.ensures ∙ ap (λ z. reported c.loop-field.faults ++ reserved_name (k.Field c.args.of.now z)) c.as_str.ensures.value)
