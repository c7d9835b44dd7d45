use Rattle.sdl_own_faults.specs.Parts.{definitions_of}
use Rattle.sdl_own_faults.specs.All.{definition_faults}
use Rattle.sdl_own_faults.proofs.Reported.{reports_next}
use Rattle.sdl_own_faults.proofs.all.report_definitions.Goals as goal

pub loop-definition-preserved : goal.loop-definition-preserved
loop-definition-preserved c =
    reports_next (definition_faults (definitions_of c.args.extensions.now) (definitions_of c.args.listing.now)) c.args.document.now c.loop-definition.definition-index c.definition-item.result _ _ _ _ c.loop-definition-test.true c.definition-item.is c.loop-definition.invariant c.in_ok-report_definition.ensures
