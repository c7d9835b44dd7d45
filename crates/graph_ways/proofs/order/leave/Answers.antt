use Rattle.std.proofs.Common.{◌<◌, ◌∙◌, arith, length}
use Rattle.type_system_circles.proofs.Ends.{empty}
use Rattle.graph_ways.proofs.Leaving.{ends, goes_back, last_inside}
use Rattle.graph_ways.proofs.order.leave.Goals as goal

pub index_mut-requires : goal.index_mut-requires
index_mut-requires c =
    let s = c.args.search.now in
    let h = c.requires.at.sound in
    let inside : c.args.node < length c.args.graph.now = last_inside s.trail.items c.args.node h in
    let sized = h.ranks_sized in
    let same = s.order.ranks.ok.0 in
    omega (arith, inside, sized, same)

pub returns-in-Some-clause-ends : goal.returns-in-Some-clause-ends
returns-in-Some-clause-ends c =
    let s = c.args.search.now in
    let all = c.requires.all in
    let nodes = c.in_ok-push.ensures.items in
    record {
      sound = rw (c.len-rank.ensures ∙ s.order.nodes.ok.0)
          (goes_back s.trail.items c.args.node c.requires.at.sound c.push.new.self.items c.pop.new.self.items c.in-Some.link nodes
          c.in-Some.ensures.items all);
    }

pub returns-in-None-clause-ends : goal.returns-in-None-clause-ends
returns-in-None-clause-ends c =
    let s = c.args.search.now in
    let trail = s.trail in
    let left = c.pop.new.self in
    let none = empty trail.items trail.len trail.ok.0 c.in-None.ensures.cases.0 in
    record {
      sound = rw (c.len-rank.ensures ∙ s.order.nodes.ok.0)
          (ends trail.items c.args.node c.requires.at.sound c.push.new.self.items c.in_ok-push.ensures.items none c.requires.all);
      none = empty left.items left.len left.ok.0 c.in-None.ensures.cases.1;
    }
