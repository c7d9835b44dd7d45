use Rattle.std.proofs.Common.{◌≡◌, drop}
use Rattle.sdl_places.specs.Places.{first_in, parameter_place}
use Rattle.sdl_places.proofs.members.parameter_place.Given as goal

-- no earlier item has a place
abbrev pub invariant-loop-parameter : goal.invariant-loop-parameter
invariant-loop-parameter l = first_in (parameter_place l.name) l.parameters ≡ first_in (parameter_place l.name) (drop l.parameter-index l.parameters)
