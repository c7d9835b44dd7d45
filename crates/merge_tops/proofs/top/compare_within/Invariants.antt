use Rattle.std.proofs.Common.{take, false}
use Rattle.std.specs.List.{All}
use Rattle.merge_sets.specs.Names.{named, AreListed}
use Rattle.merge_sets.specs.World.{world, own_of}
use Rattle.merge_search.specs.Work.{Did, Done}
use Rattle.merge_search.specs.Reports.{AddsAll}
use Rattle.merge_tops.specs.Tops.{AllBefore, AtBefore, AtWithin}
use Rattle.merge_search.proofs.Adding.{Upto}
use Rattle.merge_sets.proofs.OneName.{no_entry}
use Rattle.std.specs.Prelude.{sum_by}
use Rattle.merge_search.specs.Spending.{Spends, name_cost}
use Rattle.merge_tops.proofs.top.compare_within.Given as goal

abbrev pub invariant-loop-first : goal.invariant-loop-first
invariant-loop-first g l =
    AreListed l.first-items (own_of (world g.J.Judge.judgement l.graph) l.s)
    × Did (world g.J.Judge.judgement l.graph) (λ M. All (λ f. AllBefore (Done (world g.J.Judge.judgement l.graph) M false) (named f.response (own_of (world g.J.Judge.judgement l.graph) l.s))) (take l.first-index l.first-items)) l.fn.search l.search
    × AddsAll (world g.J.Judge.judgement l.graph) false (AtWithin (world g.J.Judge.judgement l.graph) l.s) (Upto l.first-items l.first-index no_entry (λ f. AtBefore (named f.response (own_of (world g.J.Judge.judgement l.graph) l.s)))) l.fn.search.found.items l.search.found.items
    × Spends (world g.J.Judge.judgement l.graph) (sum_by (λ f. name_cost (world g.J.Judge.judgement l.graph) l.s l.s f.response) (take l.first-index l.first-items)) l.fn.search l.search
