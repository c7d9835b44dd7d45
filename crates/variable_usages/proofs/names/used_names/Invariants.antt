use Rattle.std.proofs.Common.{map, take}
use Rattle.variable_usages.specs.Names.{HasNames}
use Rattle.variable_usages.specs.Uses.{use_of}
use Rattle.variable_usages.proofs.names.used_names.Given as goal

abbrev pub invariant-loop-used : goal.invariant-loop-used
invariant-loop-used l = HasNames l.set (map (λ u. u.name) (map use_of (take l.used-index l.uses)))
