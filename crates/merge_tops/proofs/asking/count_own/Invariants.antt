use Rattle.std.proofs.Common.{◌<◌, ◌≤◌, ℕ, length}
use Rattle.merge_search.specs.Spending.{sum_below}
use Rattle.merge_sets.specs.World.{world, own_of}
use Rattle.merge_tops.proofs.asking.count_own.Given as goal

abbrev pub invariant-loop-s : goal.invariant-loop-s
invariant-loop-s g l =
    (l.count ≤ sum_below (λ i. length (own_of (world g.J.Judge.judgement l.graph) i)) l.s)
    × ((i : ℕ) → i < l.s → 0 < length (own_of (world g.J.Judge.judgement l.graph) i) → 0 < l.count)
