use Rattle.std.proofs.Common.{Bool, length, ◌-◌, ◌≤◌}
use Rattle.merge_search.specs.Spending.{task_cost}
use Rattle.merge_sets.specs.World.{world}
use Rattle.merge_search.specs.declared.state.Search.{Search}
use Rattle.merge_search.specs.declared.task.Task.TheVariants.{Own}
use Rattle.merge_search.specs.Tasks.{Meets}
use Rattle.merge_search.proofs.fields.next_shared.Given as goal

abbrev pub invariant-loop-next : goal.invariant-loop-next
invariant-loop-next g l =
    let v = world g.J.Judge.judgement l.graph in
    ((e : Bool) (s t : Search) → Meets v (Own l.i l.j e l.next) s t → Meets v (Own l.i l.j e l.k) s t)
    × ((e : Bool) → task_cost v (Own l.i l.j e l.next) ≤ task_cost v (Own l.i l.j e l.k))

abbrev pub decreases-loop-next : goal.decreases-loop-next
decreases-loop-next g l = length l.firsts - l.next
