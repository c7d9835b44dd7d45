use Rattle.sdl_directives.specs.Known.{directive_of}
use Rattle.sdl_directives.proofs.Earlier.{reports_next}
use Rattle.sdl_directives.proofs.known.add_directives.Goals as goal

pub loop-definition-preserved : goal.loop-definition-preserved
loop-definition-preserved c =
    reports_next directive_of c.args.document.now c.loop-definition.definition-index c.definition-item.result _ _ _ _ c.loop-definition-test.true c.definition-item.is c.loop-definition.invariant c.in_ok-add_directive.ensures
