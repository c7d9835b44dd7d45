use Rattle.std.proofs.Common.{◌≡◌, ◌++◌, take}
use Rattle.std.specs.List.{flat_map}
use Rattle.sdl_directives.specs.Known.{definitions_of}
use Rattle.sdl_directive_values.specs.Given.{directive_values, given_values}
use Rattle.sdl_directive_values.proofs.given.add_directives.Given as goal

-- those of what was seen
abbrev pub invariant-loop-directive : goal.invariant-loop-directive
invariant-loop-directive l = given_values l.given.items ≡ given_values l.initial.given.items ++ flat_map (directive_values (definitions_of l.known)) (take l.directive-index l.directives)
