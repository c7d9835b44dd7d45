use Rattle.std.proofs.Common.{◌≡◌, [], false}
use Rattle.merge_sets.specs.World.{world}
use Rattle.merge_search.specs.Counts.{Tally}
use Rattle.merge_search.specs.Reports.{AddsAll, AtSearched}
use Rattle.merge_tops.specs.Tops.{AtTop}
use Rattle.merge_search.proofs.Adding.{Upto}
use Rattle.merge_tops.proofs.Judging.{TopsDone}
use Rattle.std.specs.Prelude.{sum_by, take}
use Rattle.merge_search.specs.Spending.{Spends}
use Rattle.merge_tops.specs.TopCosts.{set_cost}
use Rattle.merge_tops.specs.TopCounts.{OpensAtTop, set_lists}
use Rattle.merge_tops.proofs.top.search_all.Given as goal

abbrev pub invariant-loop-s : goal.invariant-loop-s
invariant-loop-s g l =
    (l.s-items ≡ l.graph.order.items)
    × TopsDone (world g.J.Judge.judgement l.graph) l.s-items l.s-index l.search
    × AddsAll (world g.J.Judge.judgement l.graph) false (AtSearched (world g.J.Judge.judgement l.graph) l.s-items) (Upto l.s-items l.s-index 0 (λ s. AtTop (world g.J.Judge.judgement l.graph) s)) [] l.search.found.items
    × Tally (world g.J.Judge.judgement l.graph) l.search
    × Spends (world g.J.Judge.judgement l.graph) (sum_by (set_cost (world g.J.Judge.judgement l.graph) l.graph.inner.items) (take l.s-index l.s-items)) l.initial.search l.search
    × OpensAtTop (world g.J.Judge.judgement l.graph) (sum_by (set_lists l.graph.inner.items) (take l.s-index l.s-items)) l.initial.counts l.counts
