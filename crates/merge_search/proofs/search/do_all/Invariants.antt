use Rattle.std.proofs.Common.{reverse}
use Rattle.merge_search.specs.Spending.{Pays}
use Rattle.merge_sets.specs.World.{world}
use Rattle.merge_search.specs.Tasks.{MeetsAll}
use Rattle.merge_search.specs.declared.state.Search.{Search}
use Rattle.merge_search.proofs.search.do_all.Given as goal

-- who does the tasks that are left has done them all
abbrev pub invariant-loop : goal.invariant-loop
invariant-loop g l =
    let v = world g.J.Judge.judgement l.graph in
    ((end : Search) → MeetsAll v (reverse l.tasks.items) l.search end → MeetsAll v (reverse l.fn.tasks.items) l.fn.search end)
    × Pays v 0 l.fn.tasks.items l.tasks.items l.fn.search l.search
