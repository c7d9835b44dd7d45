use Rattle.type_system_inputs.proofs.Placing.{places_next}
use Rattle.type_system_inputs.proofs.places.input_places.Goals as goal

pub loop-place-preserved : goal.loop-place-preserved
loop-place-preserved g c =
    places_next c.args.types.now c.loop-place.place c.index-types-place.result _ c.loop-place.places c.note_input.new.places
    c.loop-place-test.true c.index-types-place.is c.loop-place.invariant c.in_ok-note_input.ensures
