use Rattle.std.proofs.Common.{List, length, subst, arith, refl, ◌<◌}
use Rattle.std.proofs.lemmas.Option.{slice_get_read}
use Rattle.fragment_graph.specs.declared.graph.Spread.{Spread}
use Rattle.fragment_reach.specs.Search.{Marks}
use Rattle.fragment_reach.proofs.Marking.{well_first}
use Rattle.fragment_reach.proofs.Searches.{started, searched_on, search_done}
use Rattle.fragment_reach.proofs.search.explore.Goals as goal

pub mark_all-requires : goal.mark_all-requires
mark_all-requires c = well_first (length c.args.graph.now) c.args.order.now.items c.args.marks.now.items c.requires

pub loop-next-init : goal.loop-next-init
loop-next-init c =
    started c.args.graph.now c.args.starts.now c.args.marks.now.items c.mark_all.new.marks.items c.args.order.now.items c.mark_all.new.order.items
    c.requires.sized c.requires.none_marked c.in_ok-mark_all.ensures.marks c.in_ok-mark_all.ensures.well

pub loop-next-preserved : goal.loop-next-preserved
loop-next-preserved c =
    let order = c.loop-next.order.items in
    let marks = c.loop-next.marks.items in
    let u = c.index-node.result.now in
    let more = c.loop-next-test.true in
    let same = c.loop-next.order.ok.0 in
    let e = c.len.ensures in
    let low : c.loop-next.next < length order = omega (arith, more, same, e) in
    searched_on c.args.graph.now c.args.starts.now order c.mark_all-in-loop-next.new.order.items marks c.mark_all-in-loop-next.new.marks.items c.loop-next.next u c.loop-next.invariant
    (slice_get_read order (length order) c.loop-next.next u refl low c.index-node.ensures)
    (subst (λ (zs : List Spread). Marks zs order marks c.mark_all-in-loop-next.new.order.items c.mark_all-in-loop-next.new.marks.items) c.spreads.ensures c.in_ok-mark_all-2.ensures.marks)
    c.in_ok-mark_all-2.ensures.well

pub returns-clause-reached : goal.returns-clause-reached
returns-clause-reached c =
    search_done c.args.graph.now c.args.starts.now c.loop-next.order.items c.loop-next.marks.items c.loop-next.next c.loop-next.invariant
    (let past = c.loop-next-test.false in let same = c.loop-next.order.ok.0 in let e = c.len.ensures in omega (arith, past, same, e))
