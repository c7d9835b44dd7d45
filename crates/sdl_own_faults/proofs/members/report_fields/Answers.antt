use Rattle.sdl_own_faults.specs.Members.{field_faults}
use Rattle.sdl_own_faults.proofs.Reported.{reports_next}
use Rattle.sdl_own_faults.proofs.members.report_fields.Goals as goal

pub loop-field-preserved : goal.loop-field-preserved
loop-field-preserved c =
    reports_next (field_faults c.args.of.now) c.args.fields.now c.loop-field.field-index c.field-item.result _ _ _ _ c.loop-field-test.true c.field-item.is c.loop-field.invariant c.in_ok-report_field.ensures
