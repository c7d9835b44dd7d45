use Rattle.std.proofs.Common.{◌≡◌, map, ◌++◌, take}
use Rattle.std.specs.List.{flat_map}
use Rattle.variable_usages.specs.Uses.{argument_uses, use_of}
use Rattle.variable_usages.proofs.uses.add_each_argument.Given as goal

abbrev pub invariant-loop-argument : goal.invariant-loop-argument
invariant-loop-argument g l = map use_of l.found.items ≡ map use_of l.fn.found.items ++ flat_map argument_uses (take l.argument-index l.arguments)
