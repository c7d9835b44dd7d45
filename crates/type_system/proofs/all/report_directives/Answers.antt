use Rattle.type_system.specs.All.{directive_faults}
use Rattle.type_system_report.proofs.Reported.{reports_next_copied}
use Rattle.type_system.proofs.all.report_directives.Goals as goal

pub loop-directive-preserved : goal.loop-directive-preserved
loop-directive-preserved g c =
    reports_next_copied directive_faults c.args.directives.now c.loop-directive.directive-index c.directive-item.result _ _ _ _ c.loop-directive-test.true c.directive-item.is c.loop-directive.invariant c.in_ok-report_directive.ensures
