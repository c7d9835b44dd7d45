use Rattle.std.proofs.Common.{false}
use Rattle.merge_sets.specs.World.{world}
use Rattle.merge_search.specs.Work.{Did}
use Rattle.merge_search.specs.Reports.{Adds, AtPlaces}
use Rattle.std.specs.Prelude.{sum_by, take}
use Rattle.merge_search.specs.Spending.{Spends}
use Rattle.merge_tops.specs.TopCosts.{inner_set_cost}
use Rattle.merge_tops.specs.TopCounts.{OpensAtTop, inner_list}
use Rattle.merge_tops.proofs.inner.compare_each_inner.Given as goal

abbrev pub invariant-loop-place : goal.invariant-loop-place
invariant-loop-place g l =
    Did (world g.J.Judge.judgement l.graph) (λ M. Unit {0}) l.fn.search l.search
    × Adds (world g.J.Judge.judgement l.graph) false (AtPlaces (world g.J.Judge.judgement l.graph) l.s) l.fn.search.found.items l.search.found.items
    × Spends (world g.J.Judge.judgement l.graph) (sum_by (inner_set_cost (world g.J.Judge.judgement l.graph) l.s) (take l.place l.inner)) l.fn.search l.search
    × OpensAtTop (world g.J.Judge.judgement l.graph) (sum_by (inner_list l.s) (take l.place l.inner)) l.fn.counts l.counts
