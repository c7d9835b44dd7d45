use Rattle.type_system.specs.ReservedNames.{reserved_field}
use Rattle.type_system_report.proofs.Reported.{reports_next}
use Rattle.type_system.proofs.reserved_names.report_fields.Goals as goal

pub loop-field-preserved : goal.loop-field-preserved
loop-field-preserved g c =
    reports_next (reserved_field c.args.schema.now c.args.of.now) c.args.fields.now c.loop-field.field-index c.field-item.result _ _ _ _ c.loop-field-test.true c.field-item.is c.loop-field.invariant c.in_ok-report_field.ensures
