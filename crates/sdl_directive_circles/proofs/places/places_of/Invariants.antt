use Rattle.std.proofs.Common.{take}
use Rattle.sdl_directive_circles.specs.Graph.{HasPlaces}
use Rattle.sdl_directive_circles.proofs.places.places_of.Given as goal

-- the places are those of the definitions that were seen
abbrev pub invariant-loop-place : goal.invariant-loop-place
invariant-loop-place l = HasPlaces (take l.place l.document) l.places
