use Rattle.type_system_interfaces.specs.AddedArguments.{added_argument}
use Rattle.type_system_interfaces.specs.Pair.{pair_value}
use Rattle.type_system_report.proofs.Reported.{reports_next}
use Rattle.type_system_interfaces.proofs.added_arguments.report_added_arguments.Goals as goal

pub loop-given-preserved : goal.loop-given-preserved
loop-given-preserved g c =
    reports_next (added_argument (pair_value c.args.pair.now)) c.arguments-given-items.result.now c.loop-given.given-index c.given-item.result _ _ _ _ c.loop-given-test.true c.given-item.is c.loop-given.invariant c.in_ok-report_added_argument.ensures
