use Rattle.std.proofs.Common.{◌≡◌, take}
use Rattle.std.specs.List.{flat_map}
use Rattle.sdl_faults.specs.Told.{field_places}
use Rattle.sdl_faults.proofs.places.places_of.Given as goal

-- the places of the fields so far
abbrev pub invariant-loop-field : goal.invariant-loop-field
invariant-loop-field l = l.places.items ≡ flat_map (field_places l.document) (take l.field-index l.fields)
