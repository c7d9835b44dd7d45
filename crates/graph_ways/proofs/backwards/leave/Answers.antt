use Rattle.std.proofs.Common.{refl}
use Rattle.graph_ways.proofs.Ending.{leaves_less}
use Rattle.graph_ways.proofs.Stepping.{leaves, popped}
use Rattle.graph_ways.proofs.backwards.leave.Goals as goal

pub returns-clause-round : goal.returns-clause-round
returns-clause-round c =
    let s = c.args.search.now in
    let last = c.requires.last in
    leaves c.args.graph.now c.args.order.now c.args.root s c.requires.round _ c.args.node
    (popped s.waiting.items c.pop.new.self.items last.0 s.waiting.len c.args.node s.waiting.ok.0 last.1 c.pop.ensures.rest) c.requires.done
    refl refl refl

pub returns-clause-less : goal.returns-clause-less
returns-clause-less c =
    let s = c.args.search.now in
    let last = c.requires.last in
    leaves_less c.args.graph.now s _ c.args.node
    (popped s.waiting.items c.pop.new.self.items last.0 s.waiting.len c.args.node s.waiting.ok.0 last.1 c.pop.ensures.rest) refl refl
