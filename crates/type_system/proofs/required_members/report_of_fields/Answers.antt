use Rattle.std.proofs.Common.{◌++◌, ap, string_bytes, ◌∙◌}
use Rattle.std.specs.List.{flat_map}
use Rattle.type_system_report.specs.Fault.{reported}
use Rattle.type_system.specs.RequiredMembers.{deprecated_argument, deprecated_arguments}
use Rattle.type_system_report.proofs.Reported.{reports_next}
use Rattle.type_system.proofs.required_members.report_of_fields.Goals as goal

pub loop-field-preserved : goal.loop-field-preserved
loop-field-preserved g c =
    reports_next (deprecated_arguments c.args.of.now) c.args.fields.now c.loop-field.field-index c.field-item.result _ _ _ _ c.loop-field-test.true c.field-item.is c.loop-field.invariant (c.in_ok-report_arguments.ensures ∙ ap (λ z. reported c.loop-field.faults ++ flat_map (deprecated_argument c.args.of.now z) c.arguments.result.now) c.as_str.ensures.value ∙ ap (λ zs. reported c.loop-field.faults ++ flat_map (deprecated_argument c.args.of.now (string_bytes c.field-item.result.name)) zs) c.arguments.ensures)
