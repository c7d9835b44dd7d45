use Rattle.std.proofs.Common.{◌≡◌, drop}
use Rattle.sdl_places.specs.Places.{first_in, own_argument_place}
use Rattle.sdl_places.proofs.members.first_argument_place.Given as goal

-- no earlier item has a place
abbrev pub invariant-loop-defined : goal.invariant-loop-defined
invariant-loop-defined l = first_in (own_argument_place l.field l.name) l.fields ≡ first_in (own_argument_place l.field l.name) (drop l.defined-index l.fields)
