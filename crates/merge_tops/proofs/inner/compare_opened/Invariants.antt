use Rattle.std.proofs.Common.{false}
use Rattle.merge_sets.specs.World.{world}
use Rattle.merge_search.specs.Work.{Did}
use Rattle.merge_search.specs.Reports.{Adds}
use Rattle.merge_tops.specs.Inner.{AtParts}
use Rattle.std.specs.Prelude.{sum_by, take, ◌*◌}
use Rattle.merge_search.specs.Spending.{Spends}
use Rattle.merge_search.specs.Weight.{fields_weight, fragment_weight}
use Rattle.merge_tops.proofs.inner.compare_opened.Given as goal

abbrev pub invariant-loop-h : goal.invariant-loop-h
invariant-loop-h g l =
    Did (world g.J.Judge.judgement l.graph) (λ M. Unit {0}) l.fn.search l.search
    × Adds (world g.J.Judge.judgement l.graph) false (AtParts (world g.J.Judge.judgement l.graph) l.part.own.items l.starts) l.fn.search.found.items l.search.found.items
    × Spends (world g.J.Judge.judgement l.graph) (sum_by (λ h. fields_weight (world g.J.Judge.judgement l.graph) l.part.own.items * fragment_weight (world g.J.Judge.judgement l.graph) h) (take l.h-index l.opening)) l.fn.search l.search
