use Rattle.std.proofs.Common.{◌≡◌, ◌++◌, take}
use Rattle.std.specs.List.{flat_map}
use Rattle.type_system_defaults.specs.Given.{given_values, argument_default}
use Rattle.type_system_defaults.proofs.given.add_arguments.Given as goal

-- those of the items that were seen were appended
abbrev pub invariant-loop-argument : goal.invariant-loop-argument
invariant-loop-argument g l = given_values l.given ≡ given_values l.fn.given ++ flat_map (argument_default l.of l.field) (take l.argument-index l.arguments)
