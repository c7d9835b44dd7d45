use Rattle.std.proofs.Common.{false}
use Rattle.merge_sets.specs.World.{world}
use Rattle.merge_search.specs.Work.{Did}
use Rattle.merge_search.specs.Reports.{Adds, AtPlaces}
use Rattle.std.specs.Prelude.{sum_by, take, ◌*◌}
use Rattle.merge_sets.specs.Names.{named}
use Rattle.merge_search.specs.Spending.{Spends}
use Rattle.merge_search.specs.Weight.{fields_weight}
use Rattle.merge_tops.proofs.inner.compare_own_part.Given as goal

abbrev pub invariant-loop-first : goal.invariant-loop-first
invariant-loop-first g l =
    Did (world g.J.Judge.judgement l.graph) (λ M. Unit {0}) l.fn.search l.search
    × Adds (world g.J.Judge.judgement l.graph) false (AtPlaces (world g.J.Judge.judgement l.graph) l.s) l.fn.search.found.items l.search.found.items
    × Spends (world g.J.Judge.judgement l.graph) (sum_by (λ f. fields_weight (world g.J.Judge.judgement l.graph) (named f.response l.part.own.items) * fields_weight (world g.J.Judge.judgement l.graph) (named f.response l.part.own.items)) (take l.first-index l.first-items)) l.fn.search l.search
