use Rattle.std.proofs.Common.{take, false}
use Rattle.std.specs.List.{All}
use Rattle.merge_sets.specs.World.{world}
use Rattle.merge_search.specs.Work.{Did, Pair}
use Rattle.merge_search.specs.Reports.{Adds}
use Rattle.merge_tops.specs.Tops.{AtListed}
use Rattle.merge_search.specs.Spending.{Spends}
use Rattle.merge_tops.proofs.top.compare_spread.Given as goal

abbrev pub invariant-loop-g : goal.invariant-loop-g
invariant-loop-g g l =
    Did (world g.J.Judge.judgement l.graph) (λ M. All (λ k. Pair M false l.f k) (take l.g-index l.list)) l.fn.search l.search
    × Adds (world g.J.Judge.judgement l.graph) false (AtListed (world g.J.Judge.judgement l.graph) l.f l.list) l.fn.search.found.items l.search.found.items
    × Spends (world g.J.Judge.judgement l.graph) 0 l.fn.search l.search
