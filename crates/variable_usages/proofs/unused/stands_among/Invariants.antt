use Rattle.std.proofs.Common.{map, take}
use Rattle.std.specs.List.{Contains}
use Rattle.variable_usages.specs.Unused.{name_and_span, variable_at}
use Rattle.variable_usages.proofs.unused.stands_among.Given as goal

-- none of those that were seen is this one
abbrev pub invariant-loop-earlier : goal.invariant-loop-earlier
invariant-loop-earlier l = Contains (map name_and_span (take l.earlier-index l.found)) (variable_at l.variable) → ⊥
