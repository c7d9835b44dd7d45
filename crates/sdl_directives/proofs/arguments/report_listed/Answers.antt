use Rattle.sdl_directives.specs.Arguments.{argument_judged}
use Rattle.sdl_directives.proofs.Earlier.{after_next}
use Rattle.sdl_directives.proofs.arguments.report_listed.Goals as goal

pub loop-index-preserved : goal.loop-index-preserved
loop-index-preserved c =
    after_next (argument_judged c.args.defined.now) c.args.arguments.now c.loop-index.index c.index-arguments-index.result _ _ _ c.loop-index-test.true c.index-arguments-index.is c.loop-index.invariant c.in_ok-report_argument.ensures
