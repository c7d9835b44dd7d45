use Rattle.std.proofs.Common.{◌≡◌, map, ◌++◌}
use Rattle.std.specs.List.{flat_map}
use Rattle.language.specs.SelectionsInside.{all_inside}
use Rattle.fragment_graph.specs.Preorder.{left}
use Rattle.fragment_graph.specs.Spreads.{placed_spreads_of}
use Rattle.fragment_graph.specs.DocumentGraph.{resolved}
use Rattle.fragment_graph.proofs.document_graph.add_spreads.Given as goal

-- what was found, and the spreads in what is left
abbrev pub invariant-loop-selections : goal.invariant-loop-selections
invariant-loop-selections g l =
    l.found.items ++ flat_map (λ s. map (resolved l.numbers) (placed_spreads_of s)) (left l.selections)
    ≡ l.fn.found.items ++ flat_map (λ s. map (resolved l.numbers) (placed_spreads_of s)) l.set

abbrev pub decreases-loop-selections : goal.decreases-loop-selections
decreases-loop-selections g l = all_inside (left l.selections)
