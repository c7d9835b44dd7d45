use Rattle.std.proofs.Common.{◌≡◌, map, take}
use Rattle.language_types.specs.References.{list_copied}
use Rattle.type_system_inputs.specs.Graph.{field_of}
use Rattle.type_system_inputs.specs.Told.{circles_told}
use Rattle.type_system_inputs.proofs.told.told_circles.Given as goal

-- the circles that were seen are told
abbrev pub invariant-loop-circle : goal.invariant-loop-circle
invariant-loop-circle g l = circles_told l.told ≡ map (λ c. map (field_of (list_copied l.types)) c.links.items) (take l.circle-index l.circles)
