use Rattle.std.proofs.Common.{◌-◌, length}
use Rattle.merge_search.specs.declared.state.Search.{Search}
use Rattle.merge_search.specs.Spending.{ComparesUpto}
use Rattle.merge_search.specs.Tasks.{MeetsList}
use Rattle.merge_sets.specs.World.{world}
use Rattle.merge_search.proofs.settle.settle_from.Given as goal

abbrev pub invariant-loop-k : goal.invariant-loop-k
invariant-loop-k g l =
    let v = world g.J.Judge.judgement l.graph in
    ((t : Search) → MeetsList v l.e l.a l.fields l.k l.search t → MeetsList v l.e l.a l.fields l.n l.fn.search t)
    × ComparesUpto v l.a l.fields l.n l.k 0 l.fn.search l.search

abbrev pub decreases-loop-k : goal.decreases-loop-k
decreases-loop-k g l = length l.fields - l.k
