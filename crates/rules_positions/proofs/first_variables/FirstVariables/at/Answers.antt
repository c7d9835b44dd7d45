use Rattle.std.proofs.Common.{refl}
use Rattle.rules_positions.specs.DefinedVariables.{variables_at}
use Rattle.rules_positions.proofs.FirstDefinitions.{keeps_next}
use Rattle.rules_positions.proofs.first_variables.FirstVariables.at.Goals as goal

pub loop-place-preserved : goal.loop-place-preserved
loop-place-preserved g c =
    keeps_next (variables_at c.args.document.now) c.args.places.now c.loop-place.place-index _ _ c.loop-place.variables c.note_place.new.self refl c.loop-place-test.true c.loop-place.invariant c.in_ok-note_place.ensures
