use Rattle.std.proofs.Common.{refl}
use Rattle.graph_ways.proofs.Ending.{meets_as_many}
use Rattle.graph_ways.proofs.Stepping.{meets, meets_settled}
use Rattle.graph_ways.proofs.backwards.meet.Goals as goal

pub returns-clause-round : goal.returns-clause-round
returns-clause-round c =
    let r = c.requires in
    meets c.args.graph.now c.args.order.now c.args.root c.args.search.now r.round _ r.order c.args.link r.stands r.target r.new
    refl refl refl c.in_ok-push.ensures.items

pub returns-clause-settled : goal.returns-clause-settled
returns-clause-settled c =
    let r = c.requires in
    meets_settled c.args.graph.now c.args.order.now c.args.root c.args.search.now r.round c.args.link r.stands r.target r.new

pub returns-clause-waits : goal.returns-clause-waits
returns-clause-waits c =
    let s = c.args.search.now in
    meets_as_many s.roots.items s.waiting.items c.push.new.self.items c.args.link.from c.args.root c.requires.new c.in_ok-push.ensures.items
