use Rattle.std.proofs.Common.{◌++◌, ap, ◌∙◌}
use Rattle.type_system_report.specs.declared.fault.CoordinateOf.TheVariants as k
use Rattle.type_system_report.proofs.Reported.{reports_next}
use Rattle.type_system_defaults.specs.Given.{default_at, given_values, input_field_default}
use Rattle.type_system_defaults.proofs.given.add_input_fields.Goals as goal

pub loop-field-preserved : goal.loop-field-preserved
loop-field-preserved g c =
    reports_next (input_field_default c.args.of.now) c.args.fields.now c.loop-field.field-index c.field-item.result _ _ _ _ c.loop-field-test.true c.field-item.is c.loop-field.invariant (c.in_ok-add_default.ensures ∙ ap (λ z. given_values c.loop-field.given ++ default_at (k.Field c.args.of.now z) c.field-item.result) c.as_str.ensures.value)
