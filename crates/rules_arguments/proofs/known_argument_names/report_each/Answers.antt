use Rattle.rules_arguments.specs.KnownArgumentNames.{unknown_argument, unknown_message}
use Rattle.rules_support.proofs.Reported.{reports_next}
use Rattle.rules_arguments.proofs.known_argument_names.report_each.Goals as goal

pub loop-argument-preserved : goal.loop-argument-preserved
loop-argument-preserved g c =
    reports_next (unknown_argument (unknown_message c.args.bearer) c.args.known.now) c.deref-argument-items.result.now c.loop-argument.argument-index c.argument-item.result _ _ _ _ c.loop-argument-test.true c.argument-item.is c.loop-argument.invariant c.in_ok-report_unknown.ensures.ok
