use Rattle.type_system_report.proofs.Reported.{reports_next}
use Rattle.type_system_defaults.specs.Given.{field_defaults}
use Rattle.type_system_defaults.proofs.given.add_fields.Goals as goal

pub loop-field-preserved : goal.loop-field-preserved
loop-field-preserved g c =
    reports_next (field_defaults c.args.of.now) c.args.fields.now c.loop-field.field-index c.field-item.result _ _ _ _ c.loop-field-test.true c.field-item.is c.loop-field.invariant c.in_ok-add_field.ensures
