use Rattle.std.proofs.Common.{◌≡◌, ◌++◌, string_bytes, subst}
use Rattle.type_system_report.specs.Fault.{reported}
use Rattle.type_system_interfaces.specs.InterfaceFields.{unmet_field}
use Rattle.type_system_report.proofs.Reported.{reports_next}
use Rattle.type_system_interfaces.proofs.interface_fields.report_unmet_interface.Goals as goal

pub loop-field-preserved : goal.loop-field-preserved
loop-field-preserved g c =
    let finds = unmet_field c.args.schema.now c.args.meta.now in
    let named = subst (λ z. reported c.report_unmet_field.new.faults ≡ reported c.loop-field.faults ++ finds z c.field-item.result) c.as_str.ensures.value c.in_ok-report_unmet_field.ensures in
    reports_next (finds (string_bytes c.in-Some-Interface.interface.name)) c.deref-field-items.result.now c.loop-field.field-index c.field-item.result _ _ _ _ c.loop-field-test.true c.field-item.is c.loop-field.invariant named
