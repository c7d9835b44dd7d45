use Rattle.std.proofs.Common.{◌+◌, ◌∙◌, arith, ℕ, List, Option, length, refl, subst, sym}
use Rattle.std.proofs.lemmas.Option.{slice_get_read}
use Rattle.merge_graph.proofs.Lasts.{Seen, seen_none, seen_next, seen_all}
use Rattle.merge_graph.proofs.definitions.last_places.Goals as goal

pub loop-place-init : goal.loop-place-init
loop-place-init g c =
    seen_none c.args.document.now c.args.graph.now.numbers c.in_ok-places.places.items (c.in_ok-places.ensures.len ∙ c.name_count.ensures) c.in_ok-places.ensures.none

pub loop-place-preserved : goal.loop-place-preserved
loop-place-preserved g c =
    let graph = c.args.graph.now in
    let i = c.loop-place.place in
    let low = c.loop-place-test.true in
    let counted = c.len-place-end.ensures in
    let long = graph.defined.ok.0 in
    subst (Seen c.args.document.now graph.numbers (i + 1)) (sym {A = List (Option ℕ)} c.note_place.ensures)
    (seen_next c.args.document.now graph i c.index.result.now c.loop-place.places.items c.requires
    (slice_get_read graph.defined.items (length graph.defined.items) i c.index.result.now refl (omega (arith, low, counted, long)) c.index.ensures) c.loop-place.invariant)

pub returns : goal.returns
returns g c =
    let far = c.loop-place-test.false in
    let counted = c.len-place-end.ensures in
    let long = c.args.graph.now.defined.ok.0 in
    seen_all c.args.document.now c.args.graph.now c.loop-place.place c.loop-place.places.items c.requires (omega (arith, far, counted, long)) c.loop-place.invariant
