use Rattle.sdl_directives.specs.Arguments.{missing_argument}
use Rattle.sdl_directives.proofs.Earlier.{reports_next}
use Rattle.sdl_directives.proofs.arguments.report_parameters.Goals as goal

pub loop-parameter-preserved : goal.loop-parameter-preserved
loop-parameter-preserved c =
    reports_next (missing_argument c.args.defined.now c.args.directive.now) c.args.parameters.now c.loop-parameter.parameter-index c.parameter-item.result _ _ _ _ c.loop-parameter-test.true c.parameter-item.is c.loop-parameter.invariant c.in_ok-report_parameter.ensures
