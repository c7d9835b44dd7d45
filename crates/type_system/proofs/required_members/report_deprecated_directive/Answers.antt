use Rattle.type_system.specs.RequiredMembers.{deprecated_directive_argument}
use Rattle.type_system_report.proofs.Reported.{reports_next}
use Rattle.type_system.proofs.required_members.report_deprecated_directive.Goals as goal

pub loop-argument-preserved : goal.loop-argument-preserved
loop-argument-preserved g c =
    reports_next (deprecated_directive_argument c.as_str-of.result.now) c.deref-argument-items.result.now c.loop-argument.argument-index c.argument-item.result _ _ _ _ c.loop-argument-test.true c.argument-item.is c.loop-argument.invariant c.in_ok-report_directive_argument.ensures
