use Rattle.std.proofs.Common.{◌≡◌, map, ◌++◌, take}
use Rattle.std.specs.List.{flat_map}
use Rattle.variable_usages.specs.Uses.{variable_definition_uses, use_of}
use Rattle.variable_usages.proofs.uses.add_each_definition.Given as goal

abbrev pub invariant-loop-definition : goal.invariant-loop-definition
invariant-loop-definition g l = map use_of l.found.items ≡ map use_of l.fn.found.items ++ flat_map variable_definition_uses (take l.definition-index l.definitions)
