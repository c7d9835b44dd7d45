use Rattle.std.proofs.Common.{◌++◌, ap, ◌∙◌, string_bytes}
use Rattle.type_system_report.specs.Fault.{reported}
use Rattle.type_system_interfaces.specs.Ancestors.{wrong_ancestor}
use Rattle.type_system_report.proofs.Reported.{reports_next}
use Rattle.type_system_interfaces.proofs.ancestors.report_names.Goals as goal

pub loop-name-preserved : goal.loop-name-preserved
loop-name-preserved g c =
    reports_next (λ x. wrong_ancestor c.args.meta.now c.args.interface.now (string_bytes x)) c.args.names.now c.loop-name.name-index c.name-item.result _ _ _ _ c.loop-name-test.true c.name-item.is c.loop-name.invariant (c.in_ok-report_name.ensures ∙ ap (λ z. reported c.loop-name.faults ++ wrong_ancestor c.args.meta.now c.args.interface.now z) c.as_str.ensures.value)
