use Rattle.std.proofs.Common.{[], refl}
use Rattle.sdl_directives.proofs.Earlier.{reports_next}
use Rattle.sdl_faults.specs.Told.{field_places}
use Rattle.sdl_faults.proofs.places.places_of.Goals as goal

-- one field more
pub loop-field-preserved : goal.loop-field-preserved
loop-field-preserved c =
    reports_next (field_places c.args.document.now) c.args.fields.now c.loop-field.field-index _ _ [] c.loop-field.places.items c.add_place.new.places.items c.loop-field-test.true refl c.loop-field.invariant c.in_ok-add_place.ensures
