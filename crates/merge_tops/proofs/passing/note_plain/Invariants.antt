use Rattle.std.proofs.Common.{◌≡◌, take}
use Rattle.std.specs.List.{All}
use Rattle.merge_sets.specs.World.{world}
use Rattle.merge_search.specs.Work.{Did}
use Rattle.merge_tops.specs.Tops.{MarkedDone}
use Rattle.merge_search.specs.Spending.{Spends}
use Rattle.merge_tops.proofs.passing.note_plain.Given as goal

abbrev pub invariant-loop-f : goal.invariant-loop-f
invariant-loop-f g l =
    Did (world g.J.Judge.judgement l.graph) (λ M. All (MarkedDone (world g.J.Judge.judgement l.graph) M l.plain l.list) (take l.f-index l.list)) l.fn.search l.search
    × (l.search.found.items ≡ l.fn.search.found.items)
    × Spends (world g.J.Judge.judgement l.graph) 0 l.fn.search l.search
