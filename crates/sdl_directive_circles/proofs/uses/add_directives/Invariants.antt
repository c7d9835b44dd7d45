use Rattle.std.proofs.Common.{◌≡◌, ◌++◌, take}
use Rattle.std.specs.List.{flat_map}
use Rattle.sdl_directive_circles.specs.Uses.{directive_used, name_values}
use Rattle.sdl_directive_circles.proofs.uses.add_directives.Given as goal

-- those of what was seen
abbrev pub invariant-loop-directive : goal.invariant-loop-directive
invariant-loop-directive l =
    name_values l.uses.items ≡ name_values l.initial.uses.items ++ flat_map directive_used (take l.directive-index l.directives)
