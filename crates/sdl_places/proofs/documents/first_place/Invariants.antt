use Rattle.std.proofs.Common.{◌≡◌, drop}
use Rattle.type_system_report.specs.Fault.{coordinate_value}
use Rattle.sdl_places.specs.Places.{first_in, place_within}
use Rattle.sdl_places.proofs.documents.first_place.Given as goal

-- no earlier item has a place
abbrev pub invariant-loop-definition : goal.invariant-loop-definition
invariant-loop-definition l = first_in (place_within (coordinate_value l.at)) l.document ≡ first_in (place_within (coordinate_value l.at)) (drop l.definition-index l.document)
