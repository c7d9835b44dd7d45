use Rattle.std.proofs.Common.{◌≡◌, take}
use Rattle.std.specs.List.{flat_map}
use Rattle.language_types.specs.References.{list_copied}
use Rattle.sdl_directive_circles.specs.Graph.{link_told}
use Rattle.sdl_directive_circles.proofs.circles.names_on.Given as goal

-- those of what was seen
abbrev pub invariant-loop-link : goal.invariant-loop-link
invariant-loop-link l = list_copied l.names.items ≡ flat_map (link_told l.document) (take l.link-index l.links)
