use Rattle.std.proofs.Common.{◌≡◌, map, ◌++◌, take}
use Rattle.std.specs.List.{flat_map}
use Rattle.variable_usages.specs.Uses.{directive_uses, use_of}
use Rattle.variable_usages.proofs.uses.add_each_directive.Given as goal

abbrev pub invariant-loop-directive : goal.invariant-loop-directive
invariant-loop-directive g l = map use_of l.found.items ≡ map use_of l.fn.found.items ++ flat_map directive_uses (take l.directive-index l.directives)
