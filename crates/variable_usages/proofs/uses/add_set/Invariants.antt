use Rattle.std.proofs.Common.{◌≡◌, map, ◌++◌}
use Rattle.language.specs.SelectionsInside.{all_inside}
use Rattle.fragment_graph.specs.Preorder.{left}
use Rattle.variable_usages.specs.Uses.{use_of, used_in_all}
use Rattle.variable_usages.proofs.uses.add_set.Given as goal

-- what was found, and the uses in what is left
abbrev pub invariant-loop-selections : goal.invariant-loop-selections
invariant-loop-selections g l =
    map use_of l.found.items ++ used_in_all (left l.selections) ≡ map use_of l.fn.found.items ++ used_in_all l.set

abbrev pub decreases-loop-selections : goal.decreases-loop-selections
decreases-loop-selections g l = all_inside (left l.selections)
