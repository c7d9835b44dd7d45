use Rattle.std.proofs.Common.{◌≡◌, drop}
use Rattle.sdl_places.specs.Places.{first_in, named_value_place}
use Rattle.sdl_places.proofs.members.named_value_place.Given as goal

-- no earlier item has a place
abbrev pub invariant-loop-value : goal.invariant-loop-value
invariant-loop-value l = first_in (named_value_place l.name) l.values ≡ first_in (named_value_place l.name) (drop l.value-index l.values)
