use Rattle.sdl_own_faults.specs.Names.{names_in}
use Rattle.sdl_own_faults.proofs.Reported.{parts_next}
use Rattle.sdl_own_faults.proofs.names.add_extending.Goals as goal

pub loop-extension-preserved : goal.loop-extension-preserved
loop-extension-preserved c =
    parts_next (names_in c.args.defined.now) c.args.listing.now c.loop-extension.extension-index c.extension-item.result _ _ _ _ c.loop-extension-test.true c.extension-item.is c.loop-extension.invariant c.in_ok-add_extended.ensures
