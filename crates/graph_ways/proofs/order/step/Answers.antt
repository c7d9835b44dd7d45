use Rattle.std.proofs.Common.{◌≡◌, ◌<◌, ◌≤◌, List, Some, ap, arith, get_or, length, refl, slice_get, subst}
use Rattle.std.proofs.lemmas.Option.{slice_get-get_or, slice_get_read}
use Rattle.fragment_graph.proofs.Lists.{same_item}
use Rattle.type_system_circles.specs.declared.graph.Edge.{Edge}
use Rattle.graph_ways.proofs.Leaving.{last_inside}
use Rattle.graph_ways.proofs.order.step.Goals as goal

pub index-next-requires : goal.index-next-requires
index-next-requires c =
    let s = c.args.search.now in
    let h = c.requires.at.sound in
    let inside : c.args.node < length c.args.graph.now = last_inside s.trail.items c.args.node h in
    let sized = h.looked_sized in
    let same = s.order.looked.ok.0 in
    omega (arith, inside, sized, same)

pub look-requires-clause-edge : goal.look-requires-clause-edge
look-requires-clause-edge c =
    let own = c.edges-own.result.now in
    let n = c.index-next.result.now in
    let d : Edge = record { target = 0; field = 0 } in
    let lt : n < length own = omega arith in
    subst (λ (es : List Edge). slice_get es n ≡ Some (get_or own n d)) c.edges-own.ensures (slice_get-get_or own n d lt)

pub look-requires-clause-next : goal.look-requires-clause-next
look-requires-clause-next c =
    let s = c.args.search.now in
    let h = c.requires.at.sound in
    let looked = s.order.looked.items in
    let inside : c.args.node < length c.args.graph.now = last_inside s.trail.items c.args.node h in
    let sized : length looked ≡ length c.args.graph.now = h.looked_sized in
    let short : c.args.node < length looked = omega (arith, inside, sized) in
    slice_get_read looked (length looked) c.args.node c.index-next.result.now refl short c.index-next.ensures

pub leave-requires-clause-all : goal.leave-requires-clause-all
leave-requires-clause-all c = λ n is.
    let s = c.args.search.now in
    let h = c.requires.at.sound in
    let looked = s.order.looked.items in
    let next = c.index-next.result.now in
    let inside : c.args.node < length c.args.graph.now = last_inside s.trail.items c.args.node h in
    let sized : length looked ≡ length c.args.graph.now = h.looked_sized in
    let short : c.args.node < length looked = omega (arith, inside, sized) in
    let read = slice_get_read looked (length looked) c.args.node next refl short c.index-next.ensures in
    let same : next ≡ n = same_item next n (slice_get looked c.args.node) read is in
    let past : length c.edges-own.result.now ≤ next = omega arith in
    omega (arith, same, past, ap length c.edges-own.ensures)
