use Rattle.std.proofs.Common.{◌≡◌, drop}
use Rattle.sdl_places.specs.Places.{first_in, named_field_place}
use Rattle.sdl_places.proofs.members.named_field_place.Given as goal

-- no earlier item has a place
abbrev pub invariant-loop-field : goal.invariant-loop-field
invariant-loop-field l = first_in (named_field_place l.name) l.fields ≡ first_in (named_field_place l.name) (drop l.field-index l.fields)
