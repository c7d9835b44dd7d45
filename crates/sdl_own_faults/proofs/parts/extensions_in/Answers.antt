use Rattle.std.proofs.Common.{[]}
use Rattle.sdl_own_faults.specs.Parts.{extension_in}
use Rattle.sdl_own_faults.proofs.Reported.{reports_next}
use Rattle.sdl_own_faults.proofs.parts.extensions_in.Goals as goal

pub loop-definition-preserved : goal.loop-definition-preserved
loop-definition-preserved c =
    reports_next extension_in c.args.document.now c.loop-definition.definition-index c.definition-item.result _ [] _ _ c.loop-definition-test.true c.definition-item.is c.loop-definition.invariant c.in_ok-add_extension.ensures
