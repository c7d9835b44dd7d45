use Rattle.std.proofs.Common.{◌≡◌, ◌++◌, map, option_map, take}
use Rattle.std.specs.List.{flat_map}
use Rattle.variable_usages.specs.Names.{has_name}
use Rattle.variable_usages.specs.Undefined.{told_undefined, undefined_of}
use Rattle.variable_usages.specs.Uses.{use_of}
use Rattle.variable_usages.proofs.undefined.tell_all.Given as goal

abbrev pub invariant-loop-used : goal.invariant-loop-used
invariant-loop-used l =
    map undefined_of l.found.items
    ≡ map undefined_of l.fn.found.items ++ flat_map (told_undefined (has_name l.defined) (option_map (λ n. n.now) l.operation) l.start) (map use_of (take l.used-index l.uses))
