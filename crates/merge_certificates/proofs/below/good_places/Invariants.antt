use Rattle.std.proofs.Common.{◌≡◌, ◌<◌, ◌≤◌, length}
use Rattle.merge_sets.specs.Clear.{MergeBelow}
use Rattle.merge_sets.specs.World.{world}
use Rattle.merge_certificates.proofs.below.good_places.Given as goal

abbrev pub invariant-loop-left : goal.invariant-loop-left
invariant-loop-left g l =
    MergeBelow (world g.J.Judge.judgement l.graph) l.e l.fields l.good.items
    × (l.left ≤ l.fn.budget) × (0 < length l.good.items → l.left < l.fn.budget) × (l.budget ≡ l.fn.budget)

abbrev pub decreases-loop-left : goal.decreases-loop-left
decreases-loop-left g l = l.left
