use Rattle.std.proofs.Common.{◌≡◌, [], Some, OnOk, length, refl, slice_get, subst, sym}
use Rattle.std.specs.Option.{option_map_or}
use Rattle.std.proofs.lemmas.Option.{slice_get_past, slice_get_read}
use Rattle.rules_positions.specs.DefinedVariables.{variables_in}
use Rattle.rules_positions.specs.FirstVariables.{Notes}
use Rattle.rules_positions.proofs.FirstDefinitions.{notes_none}
use Rattle.rules_positions.proofs.first_variables.FirstVariables.note_place.Goals as goal

pub returns-in-Some : goal.returns-in-Some
returns-in-Some g c =
    let document = c.args.document.now in
    let d = c.in-Some.definition.now in
    let at : slice_get document c.args.place ≡ Some d = slice_get_read document (length document) c.args.place d refl c.in-Some.ensures.lookup.3.0 c.in-Some.ensures.lookup.1 in
    subst (λ o. OnOk c.note_definition.result (Notes (option_map_or variables_in o []) c.args.self.now c.note_definition.new.self)) (sym at) c.note_definition.ensures

pub returns-in-None : goal.returns-in-None
returns-in-None g c =
    let document = c.args.document.now in
    subst (λ o. Notes (option_map_or variables_in o []) c.args.self.now c.args.self.now) (sym (slice_get_past document c.args.place c.in-None.ensures.lookup.3)) (notes_none c.args.self.now)
