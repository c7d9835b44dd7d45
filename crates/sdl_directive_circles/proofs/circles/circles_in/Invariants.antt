use Rattle.std.proofs.Common.{take}
use Rattle.std.specs.List.{flat_map}
use Rattle.sdl_directives.specs.Known.{directive_of}
use Rattle.sdl_directive_circles.specs.Circles.{AreCirclesOf, circle_values}
use Rattle.sdl_directive_circles.proofs.circles.circles_in.Given as goal

-- those of the definitions that were seen
abbrev pub invariant-loop-definition : goal.invariant-loop-definition
invariant-loop-definition l =
    AreCirclesOf l.document (flat_map directive_of (take l.definition-index l.document)) (circle_values l.circles.items)
