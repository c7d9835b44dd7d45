use Rattle.std.proofs.Common.{ℕ, ◌+◌, ◌*◌, ◌<◌, drop, get_or, length, false}
use Rattle.std.specs.List.{All}
use Rattle.merge_sets.specs.World.{world}
use Rattle.merge_search.specs.Work.{Did, Done}
use Rattle.merge_search.specs.Reports.{AddsAll, AtRest}
use Rattle.merge_tops.specs.Tops.{AtBefore}
use Rattle.merge_search.proofs.Adding.{UptoIndex}
use Rattle.merge_sets.proofs.OneName.{no_entry}
use Rattle.merge_tops.specs.TopCosts.{later_cost}
use Rattle.merge_tops.proofs.Spends.{TakesBut}
use Rattle.merge_tops.proofs.pairs.compare_known.Given as goal

abbrev pub invariant-loop-k : goal.invariant-loop-k
invariant-loop-k g l =
    Did (world g.J.Judge.judgement l.graph) (λ M. (i : ℕ) → i < l.k → All (Done (world g.J.Judge.judgement l.graph) M false (get_or l.fields i no_entry)) (drop (i + 1) l.fields)) l.fn.search l.search
    × AddsAll (world g.J.Judge.judgement l.graph) false (AtBefore l.fields) (UptoIndex l.k (λ m. AtRest (get_or l.fields m no_entry) (drop (m + 1) l.fields))) l.fn.search.found.items l.search.found.items
    × TakesBut (world g.J.Judge.judgement l.graph) (later_cost (world g.J.Judge.judgement l.graph) l.fields) (later_cost (world g.J.Judge.judgement l.graph) (drop l.k l.fields)) (l.k * length l.fields) l.fn.search l.search
