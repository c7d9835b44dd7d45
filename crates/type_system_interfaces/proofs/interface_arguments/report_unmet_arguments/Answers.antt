use Rattle.type_system_interfaces.specs.InterfaceArguments.{unmet_argument}
use Rattle.type_system_interfaces.specs.Pair.{pair_value}
use Rattle.type_system_report.proofs.Reported.{reports_next}
use Rattle.type_system_interfaces.proofs.interface_arguments.report_unmet_arguments.Goals as goal

pub loop-wanted-preserved : goal.loop-wanted-preserved
loop-wanted-preserved g c =
    reports_next (unmet_argument (pair_value c.args.pair.now)) c.arguments-wanted-items.result.now c.loop-wanted.wanted-index c.wanted-item.result _ _ _ _ c.loop-wanted-test.true c.wanted-item.is c.loop-wanted.invariant c.in_ok-report_unmet_argument.ensures
