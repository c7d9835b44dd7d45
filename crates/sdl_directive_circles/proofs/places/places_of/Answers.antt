use Rattle.sdl_directive_circles.proofs.Placing.{places_next}
use Rattle.sdl_directive_circles.proofs.places.places_of.Goals as goal

pub loop-place-preserved : goal.loop-place-preserved
loop-place-preserved c =
    places_next c.args.document.now c.loop-place.place c.index-document-place.result _ c.loop-place.places c.note_definition.new.places
    c.loop-place-test.true c.index-document-place.is c.loop-place.invariant c.in_ok-note_definition.ensures
