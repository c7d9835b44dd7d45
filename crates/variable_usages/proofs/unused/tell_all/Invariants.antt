use Rattle.std.proofs.Common.{◌≡◌, ◌++◌, map, option_map, take}
use Rattle.variable_usages.specs.Unused.{name_and_span, unused_by, unused_of}
use Rattle.variable_usages.proofs.unused.tell_all.Given as goal

abbrev pub invariant-loop-variable : goal.invariant-loop-variable
invariant-loop-variable l =
    map unused_of l.found.items ≡ map unused_of l.fn.found.items ++ map (unused_by (option_map (λ n. n.now) l.operation)) (map name_and_span (take l.variable-index l.variables))
