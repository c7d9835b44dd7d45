use Rattle.std.proofs.Common.{◌≤◌, drop, length, reverse}
use Rattle.std.specs.Prelude.{sum_by}
use Rattle.merge_search.specs.Spending.{CostsMore, row_cost}
use Rattle.merge_sets.specs.World.{World}
use Rattle.merge_search.specs.Reports.{AtWith}
use Rattle.merge_search.specs.Tasks.{AreClearWith, AtRows, ComparesEach, Waits, WithDone}
use Rattle.merge_search.proofs.fields.wait_rows.Given as goal

abbrev pub invariant-loop-k : goal.invariant-loop-k
invariant-loop-k l =
    (l.k ≤ length l.fields)
    × ((w : World) → AreClearWith w l.e l.j l.fields l.clear
    → Waits w (reverse l.tasks.items) (ComparesEach w l.e (WithDone w l.e l.j) (AtRows w l.j l.fields) (λ a. AtWith w a l.j) (drop l.k l.fields)) (reverse l.fn.tasks.items))
    × ((w : World) → CostsMore w (sum_by (row_cost w l.j) (drop l.k l.fields)) l.fn.tasks.items l.tasks.items)

abbrev pub decreases-loop-k : goal.decreases-loop-k
decreases-loop-k l = l.k
