use Rattle.sdl_directives.specs.Judged.{judged}
use Rattle.sdl_directives.specs.Known.{definitions_of}
use Rattle.sdl_directives.proofs.Earlier.{after_next}
use Rattle.sdl_directives.proofs.judging.report_listed.Goals as goal

pub loop-index-preserved : goal.loop-index-preserved
loop-index-preserved c =
    after_next (judged (definitions_of c.args.known.now) c.args.location) c.args.directives.now c.loop-index.index c.index-directives-index.result _ _ _ c.loop-index-test.true c.index-directives-index.is c.loop-index.invariant c.in_ok-report_directive.ensures
