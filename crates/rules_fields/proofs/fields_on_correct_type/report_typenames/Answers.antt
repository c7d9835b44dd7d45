use Rattle.rules_fields.specs.FieldsOnCorrectType.{root_typename}
use Rattle.rules_support.proofs.Reported.{reports_next}
use Rattle.rules_fields.proofs.fields_on_correct_type.report_typenames.Goals as goal

pub loop-selection-preserved : goal.loop-selection-preserved
loop-selection-preserved g c =
    reports_next root_typename c.deref-selection-items.result.now c.loop-selection.selection-index c.selection-item.result _ _ _ _ c.loop-selection-test.true c.selection-item.is c.loop-selection.invariant c.in_ok-report_typename.ensures.ok
