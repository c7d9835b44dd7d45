use Rattle.std.proofs.Common.{map, take}
use Rattle.variable_usages.specs.Names.{has_name}
use Rattle.variable_usages.specs.Unused.{StartBy, UnusedAmong, name_and_span}
use Rattle.variable_usages.proofs.unused.unused_among.Given as goal

abbrev pub invariant-loop-definition : goal.invariant-loop-definition
invariant-loop-definition g l =
    UnusedAmong (has_name l.used) (map (λ v. (v.0.item.now, v.0.span)) (take l.definition-index l.definitions)) (map name_and_span l.found.items)
    × StartBy l.latest (map name_and_span l.found.items)
