use Rattle.std.proofs.Common.{refl}
use Rattle.graph_ways.proofs.Stepping.{knows_settled, notes, notes_settled}
use Rattle.graph_ways.proofs.backwards.note.Goals as goal

pub returns-then-link-root-clause-round : goal.returns-then-link-root-clause-round
returns-then-link-root-clause-round c =
    let r = c.requires in
    notes c.args.graph.now c.args.order.now c.args.root c.args.search.now r.round _ c.args.link r.stands c.if-link-root.true r.target
    refl refl refl refl

pub returns-then-link-root-clause-settled : goal.returns-then-link-root-clause-settled
returns-then-link-root-clause-settled c =
    let r = c.requires in
    notes_settled c.args.graph.now c.args.order.now c.args.root c.args.search.now r.round c.args.link c.if-link-root.true r.target

pub returns-else-link-root-clause-settled : goal.returns-else-link-root-clause-settled
returns-else-link-root-clause-settled c =
    let r = c.requires in
    knows_settled c.args.graph.now c.args.order.now c.args.root c.args.search.now r.round c.args.link r.met.0
    c.if-link-root.false r.met.1 r.target
