use Rattle.graph_ways.proofs.Leading.{climb_more}
use Rattle.graph_ways.proofs.way.climb.Goals as goal

pub loop-place-preserved : goal.loop-place-preserved
loop-place-preserved c =
    let l = c.found_by-link.result in
    let e = c.found_by-link.ensures in
    record {
      climbed = rw c.in_ok-push.ensures.items
          (climb_more c.args.graph.now c.args.node c.loop-place.links.items l (rw e.target c.loop-place.invariant.climbed) e.stands);
      inside = e.inside;
      from = e.from;
    }
