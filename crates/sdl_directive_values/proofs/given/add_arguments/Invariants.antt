use Rattle.std.proofs.Common.{◌≡◌, ◌++◌, take}
use Rattle.std.specs.List.{flat_map}
use Rattle.sdl_directive_values.specs.Given.{argument_values, given_values}
use Rattle.sdl_directive_values.proofs.given.add_arguments.Given as goal

-- those of what was seen
abbrev pub invariant-loop-argument : goal.invariant-loop-argument
invariant-loop-argument l = given_values l.given.items ≡ given_values l.initial.given.items ++ flat_map (argument_values l.parameters) (take l.argument-index l.arguments)
