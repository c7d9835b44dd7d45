use Rattle.type_system.specs.RequiredMembers.{deprecated_input_field}
use Rattle.type_system_report.proofs.Reported.{reports_next}
use Rattle.type_system.proofs.required_members.report_input_fields.Goals as goal

pub loop-field-preserved : goal.loop-field-preserved
loop-field-preserved g c =
    reports_next (deprecated_input_field c.args.of.now) c.args.fields.now c.loop-field.field-index c.field-item.result _ _ _ _ c.loop-field-test.true c.field-item.is c.loop-field.invariant c.in_ok-report_input_field.ensures
