use Rattle.std.proofs.Common.{[]}
use Rattle.sdl_own_faults.specs.Parts.{listing_of}
use Rattle.sdl_own_faults.proofs.Reported.{parts_next}
use Rattle.sdl_own_faults.proofs.parts.listing_in.Goals as goal

pub loop-extension-preserved : goal.loop-extension-preserved
loop-extension-preserved c =
    parts_next listing_of c.args.extensions.now c.loop-extension.extension-index c.extension-item.result _ [] _ _ c.loop-extension-test.true c.extension-item.is c.loop-extension.invariant c.in_ok-add_listing.ensures
