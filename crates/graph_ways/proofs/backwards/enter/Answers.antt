use Rattle.std.proofs.Common.{◌<◌, ◌+◌, List, ℕ, ap, arith, length, refl, slice_set}
use Rattle.std.proofs.lemmas.Option.{slice_get_within}
use Rattle.graph_ways.proofs.Ending.{enters_less}
use Rattle.graph_ways.proofs.Links.{to_real}
use Rattle.graph_ways.proofs.Stepping.{enters}
use Rattle.graph_ways.proofs.backwards.enter.Goals as goal

pub look-requires-clause-stands : goal.look-requires-clause-stands
look-requires-clause-stands c = (to_real c.args.graph.now c.args.link.edge.target c.args.index c.args.link c.requires.link).0

pub index_mut-requires : goal.index_mut-requires
index_mut-requires c =
    let old = c.args.search.now.entered.items in
    let room : c.args.link.edge.target < length old = slice_get_within old c.args.link.edge.target c.args.index c.requires.next in
    omega (arith, room, ap length c.in_ok-look.ensures.entered, c.look.new.search.entered.ok.0)

pub returns-clause-round : goal.returns-clause-round
returns-clause-round c =
    let e = c.in_ok-look.ensures in
    enters c.args.graph.now c.args.order.now c.args.root c.look.new.search e.round _ c.args.link c.args.index c.requires.link
    (rw e.entered c.requires.next) e.settled refl refl refl refl

pub returns-clause-less : goal.returns-clause-less
returns-clause-less c =
    let t = c.args.link.edge.target in
    let e = c.in_ok-look.ensures in
    enters_less c.args.graph.now c.args.search.now _ c.args.link t c.args.index c.requires.link c.requires.next
    (ap (λ (ns : List ℕ). slice_set ns t (c.args.index + 1)) e.entered) e.waits
