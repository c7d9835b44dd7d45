use Rattle.std.proofs.Common.{take, false}
use Rattle.std.specs.List.{All}
use Rattle.merge_sets.specs.World.{world}
use Rattle.merge_search.specs.Work.{Did, Done}
use Rattle.merge_search.specs.Reports.{AddsAll, AtFields, AtRest}
use Rattle.merge_search.proofs.Adding.{Upto}
use Rattle.merge_sets.proofs.OneName.{no_entry}
use Rattle.std.specs.Prelude.{sum_by, ◌+◌}
use Rattle.merge_search.specs.Spending.{Takes, pair_cost}
use Rattle.merge_tops.proofs.pairs.compare_rest.Given as goal

abbrev pub invariant-loop-b : goal.invariant-loop-b
invariant-loop-b g l =
    Did (world g.J.Judge.judgement l.graph) (λ M. All (λ b. Done (world g.J.Judge.judgement l.graph) M false l.a b) (take l.b-index l.rest)) l.fn.search l.search
    × AddsAll (world g.J.Judge.judgement l.graph) false (AtRest l.a l.rest) (Upto l.rest l.b-index no_entry (λ b. AtFields l.a b)) l.fn.search.found.items l.search.found.items
    × Takes (world g.J.Judge.judgement l.graph) (0 + sum_by (pair_cost (world g.J.Judge.judgement l.graph) l.a) (take l.b-index l.rest)) l.fn.search l.search
