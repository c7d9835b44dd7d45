use Rattle.std.proofs.Common.{take, false}
use Rattle.std.specs.List.{All}
use Rattle.merge_sets.specs.World.{world, set_of}
use Rattle.merge_search.specs.Work.{Did, OwnPairs}
use Rattle.merge_search.specs.Reports.{AddsAll, AtOwn}
use Rattle.merge_tops.specs.Tops.{AtSpreads}
use Rattle.merge_search.proofs.Adding.{Upto}
use Rattle.std.specs.Prelude.{sum_by, ◌*◌}
use Rattle.merge_search.specs.Spending.{Spends}
use Rattle.merge_search.specs.Weight.{fragment_weight, weight}
use Rattle.merge_tops.proofs.top.write_all.Given as goal

abbrev pub invariant-loop-h : goal.invariant-loop-h
invariant-loop-h g l =
    Did (world g.J.Judge.judgement l.graph) (λ M. All (λ h. OwnPairs (world g.J.Judge.judgement l.graph) M false l.s (set_of (world g.J.Judge.judgement l.graph) h)) (take l.h-index l.opening)) l.fn.search l.search
    × AddsAll (world g.J.Judge.judgement l.graph) false (AtSpreads (world g.J.Judge.judgement l.graph) l.s l.starts) (Upto l.opening l.h-index 0 (λ h. AtOwn (world g.J.Judge.judgement l.graph) l.s (set_of (world g.J.Judge.judgement l.graph) h))) l.fn.search.found.items l.search.found.items
    × Spends (world g.J.Judge.judgement l.graph) (sum_by (λ h. weight (world g.J.Judge.judgement l.graph) l.s * fragment_weight (world g.J.Judge.judgement l.graph) h) (take l.h-index l.opening)) l.fn.search l.search
