use Rattle.type_system_report.proofs.Reported.{reports_next}
use Rattle.sdl_directive_values.specs.Given.{argument_values}
use Rattle.sdl_directive_values.proofs.given.add_arguments.Goals as goal

pub loop-argument-preserved : goal.loop-argument-preserved
loop-argument-preserved c =
    reports_next (argument_values c.args.parameters.now) c.args.arguments.now c.loop-argument.argument-index c.argument-item.result _ _ _ _ c.loop-argument-test.true c.argument-item.is c.loop-argument.invariant c.in_ok-add_argument.ensures
