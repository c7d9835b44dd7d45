use Rattle.std.proofs.Common.{◌≡◌, map, ◌++◌, take}
use Rattle.variable_usages.specs.Uses.{at_place, use_of}
use Rattle.variable_usages.proofs.uses.add_names.Given as goal

abbrev pub invariant-loop-name : goal.invariant-loop-name
invariant-loop-name l = map use_of l.found.items ≡ map use_of l.fn.found.items ++ map (at_place l.place) (map (λ n. n.now) (take l.name-index l.names))
