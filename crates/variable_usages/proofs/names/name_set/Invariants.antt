use Rattle.std.proofs.Common.{map, take}
use Rattle.variable_usages.specs.Names.{HasNames}
use Rattle.variable_usages.proofs.names.name_set.Given as goal

abbrev pub invariant-loop-variable : goal.invariant-loop-variable
invariant-loop-variable g l = HasNames l.set (map (λ v. v.0.item.now) (take l.variable-index l.variables))
