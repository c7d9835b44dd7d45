use Rattle.std.proofs.Common.{take}
use Rattle.std.specs.List.{flat_map}
use Rattle.sdl_directive_circles.specs.Graph.{AddsLinks, links_of}
use Rattle.sdl_directive_circles.proofs.graph.add_definitions.Given as goal

-- those of what was seen
abbrev pub invariant-loop-definition : goal.invariant-loop-definition
invariant-loop-definition l =
    AddsLinks (flat_map (links_of l.places) (take l.definition-index l.document)) l.initial.nodes.items l.nodes.items
