use Rattle.std.proofs.Common.{◌≡◌, ◌<◌, ◌≤◌, List, length, get_or, ap, arith, refl, Some, slice_get, subst}
use Rattle.std.proofs.lemmas.Option.{slice_get-get_or, slice_get_read}
use Rattle.fragment_graph.proofs.Lists.{same_item}
use Rattle.type_system_circles.specs.declared.graph.Edge.{Edge}
use Rattle.type_system_circles.proofs.Ends.{end_inside}
use Rattle.type_system_circles.proofs.search.step.Goals as goal

pub index-next-requires : goal.index-next-requires
index-next-requires c =
    let s = c.args.search.now in
    let a = c.requires.at in
    let inside : c.args.node < length c.args.graph.now = end_inside c.args.graph.now a.root c.args.node s.trail.items s.colours.items s.looked.items s.circles.items _ a.walk a.sound in
    let counted = a.sound.counted in
    let same = s.looked.ok.0 in
    omega (arith, inside, counted, same)

pub look-requires-clause-edge : goal.look-requires-clause-edge
look-requires-clause-edge c =
    let own = c.edges-own.result.now in
    let n = c.index-next.result.now in
    let d : Edge = record { target = 0; field = 0 } in
    let lt : n < length own = omega arith in
    subst (λ (es : List Edge). slice_get es n ≡ Some (get_or own n d)) c.edges-own.ensures (slice_get-get_or own n d lt)

pub look-requires-clause-next : goal.look-requires-clause-next
look-requires-clause-next c =
    let s = c.args.search.now in
    let a = c.requires.at in
    let inside : c.args.node < length c.args.graph.now = end_inside c.args.graph.now a.root c.args.node s.trail.items s.colours.items s.looked.items s.circles.items _ a.walk a.sound in
    let counted = a.sound.counted in
    slice_get_read s.looked.items (length s.looked.items) c.args.node c.index-next.result.now refl (omega (arith, inside, counted)) c.index-next.ensures

pub finish-requires-clause-all : goal.finish-requires-clause-all
finish-requires-clause-all c = λ n g.
    let s = c.args.search.now in
    let a = c.requires.at in
    let inside : c.args.node < length c.args.graph.now = end_inside c.args.graph.now a.root c.args.node s.trail.items s.colours.items s.looked.items s.circles.items _ a.walk a.sound in
    let counted = a.sound.counted in
    let read = slice_get_read s.looked.items (length s.looked.items) c.args.node c.index-next.result.now refl (omega (arith, inside, counted)) c.index-next.ensures in
    let same : c.index-next.result.now ≡ n = same_item c.index-next.result.now n (slice_get s.looked.items c.args.node) read g in
    let past : length c.edges-own.result.now ≤ c.index-next.result.now = omega arith in
    omega (arith, same, past, ap length c.edges-own.ensures)
