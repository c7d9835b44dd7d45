use Rattle.std.proofs.Common.{◌≡◌, min, take}
use Rattle.std.specs.Prelude.{sum_by}
use Rattle.merge_sets.specs.World.{world}
use Rattle.merge_search.specs.Counts.{greatest, spread_count}
use Rattle.merge_search.proofs.opening.spreads_of_all.Given as goal

abbrev pub invariant-loop-f : goal.invariant-loop-f
invariant-loop-f g l = l.count ≡ min (sum_by (spread_count (world g.J.Judge.judgement l.graph)) (take l.f-index l.fragments)) greatest
