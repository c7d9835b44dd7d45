use Rattle.std.proofs.Common.{◌≡◌, ◌<◌, ℕ, take, false}
use Rattle.std.specs.List.{All, Contains}
use Rattle.merge_sets.specs.World.{world}
use Rattle.merge_search.specs.Work.{Did, Pair}
use Rattle.merge_search.specs.Spending.{Spends}
use Rattle.merge_tops.proofs.passing.note_merged.Given as goal

abbrev pub invariant-loop-f : goal.invariant-loop-f
invariant-loop-f g l =
    Did (world g.J.Judge.judgement l.graph) (λ M. All (λ f. (h : ℕ) → Contains l.list h → h < f → Pair M false f h) (take l.f-index l.list)) l.fn.search l.search
    × (l.search.found.items ≡ l.fn.search.found.items)
    × Spends (world g.J.Judge.judgement l.graph) 0 l.fn.search l.search
