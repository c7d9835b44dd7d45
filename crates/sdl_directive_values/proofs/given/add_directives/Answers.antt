use Rattle.sdl_directives.specs.Known.{definitions_of}
use Rattle.type_system_report.proofs.Reported.{reports_next}
use Rattle.sdl_directive_values.specs.Given.{directive_values}
use Rattle.sdl_directive_values.proofs.given.add_directives.Goals as goal

pub loop-directive-preserved : goal.loop-directive-preserved
loop-directive-preserved c =
    reports_next (directive_values (definitions_of c.args.known.now)) c.args.directives.now c.loop-directive.directive-index c.directive-item.result _ _ _ _ c.loop-directive-test.true c.directive-item.is c.loop-directive.invariant c.in_ok-add_directive.ensures
