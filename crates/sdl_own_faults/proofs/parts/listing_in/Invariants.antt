use Rattle.std.proofs.Common.{◌≡◌, take}
use Rattle.sdl_own_faults.specs.Parts.{definitions_of, listing_in}
use Rattle.sdl_own_faults.proofs.parts.listing_in.Given as goal

-- those of what was seen
abbrev pub invariant-loop-extension : goal.invariant-loop-extension
invariant-loop-extension l = definitions_of l.listing.items ≡ listing_in (definitions_of (take l.extension-index l.extensions))
