use Rattle.std.proofs.Common.{◌≡◌, ◌++◌, map}
use Rattle.merge_graph.specs.Sets.{plain_row, plain_node}
use Rattle.merge_graph.proofs.table_graph.searched_sets.Given as goal

-- the nodes so far are of the sets that were taken
abbrev pub invariant-loop-set : goal.invariant-loop-set
invariant-loop-set l =
    goal.iterator-loop-set.can_next l.set-iterator
    × goal.iterator-loop-set.is_finite l.set-iterator
    × (map plain_node l.nodes.items ≡ map plain_row l.yielded)
    × (l.yielded ++ l.set-iterator.rest.items ≡ l.fn.sets.items)
