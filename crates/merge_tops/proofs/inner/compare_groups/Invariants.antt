use Rattle.std.proofs.Common.{false}
use Rattle.merge_sets.specs.World.{world}
use Rattle.merge_search.specs.Work.{Did}
use Rattle.merge_search.specs.Reports.{Adds, AtLists}
use Rattle.std.specs.Prelude.{length, sum_by, take, ◌*◌, ◌+◌}
use Rattle.merge_search.specs.Spending.{Takes, list_cost}
use Rattle.merge_tops.proofs.inner.compare_groups.Given as goal

abbrev pub invariant-loop-a : goal.invariant-loop-a
invariant-loop-a g l =
    Did (world g.J.Judge.judgement l.graph) (λ M. Unit {0}) l.fn.search l.search
    × Adds (world g.J.Judge.judgement l.graph) false (AtLists l.left l.right) l.fn.search.found.items l.search.found.items
    × Takes (world g.J.Judge.judgement l.graph) (2 * (length l.left * length l.right) + sum_by (λ a. list_cost (world g.J.Judge.judgement l.graph) a l.right) (take l.a-index l.left)) l.fn.search l.search
