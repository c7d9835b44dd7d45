use Rattle.std.proofs.Common.{Some, take}
use Rattle.std.specs.List.{flat_map}
use Rattle.sdl_directive_circles.specs.Graph.{AddsLinks, links_between, place_of}
use Rattle.sdl_directive_circles.specs.Uses.{name_value}
use Rattle.sdl_directive_circles.proofs.graph.add_links.Given as goal

-- those of what was seen
abbrev pub invariant-loop-name : goal.invariant-loop-name
invariant-loop-name l =
    AddsLinks (flat_map (λ u. links_between (Some l.from) (place_of l.places (name_value u))) (take l.name-index l.uses))
    l.initial.nodes.items l.nodes.items
