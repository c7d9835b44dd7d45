use Rattle.std.proofs.Common.{take}
use Rattle.language_types.specs.References.{list_copied}
use Rattle.type_system_inputs.specs.Graph.{HasPlaces}
use Rattle.type_system_inputs.proofs.places.input_places.Given as goal

-- the map has those of the types that were seen
abbrev pub invariant-loop-place : goal.invariant-loop-place
invariant-loop-place g l = HasPlaces (list_copied (take l.place l.types)) l.places
