use Rattle.std.proofs.Common.{refl}
use Rattle.graph_ways.proofs.Stepping.{begins}
use Rattle.graph_ways.proofs.backwards.begin.Goals as goal

pub returns : goal.returns
returns c =
    let r = c.requires in
    begins c.args.graph.now c.args.order.now r.order c.args.root c.args.search.now _ r.inside r.idle r.new refl refl refl
    c.in_ok-push.ensures.items
