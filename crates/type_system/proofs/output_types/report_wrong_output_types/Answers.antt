use Rattle.type_system.specs.OutputTypes.{wrong_output_type}
use Rattle.type_system_report.proofs.Reported.{reports_next}
use Rattle.type_system.proofs.output_types.report_wrong_output_types.Goals as goal

pub loop-field-preserved : goal.loop-field-preserved
loop-field-preserved g c =
    reports_next (wrong_output_type c.args.schema.now c.type_name-of.result.now) c.fields-field-items.result.now c.loop-field.field-index c.field-item.result _ _ _ _ c.loop-field-test.true c.field-item.is c.loop-field.invariant c.in_ok-report_wrong_output_type.ensures
