use Rattle.std.proofs.Common.{◌≡◌, ◌∙◌, List, [], ◌∷◌, ◌++◌, Option, ap}
use Rattle.std.specs.List.{flat_map}
use Rattle.std.proofs.lemmas.Result.{on_ok_weaker}
use Rattle.language_types.specs.declared.position.SourcePosition.{SourcePosition}
use Rattle.type_system_inputs.specs.Told.{circle_text}
use Rattle.sdl_faults.specs.Told.{ToldFault, field_place, field_places, told_circle, told_values}
use Rattle.sdl_faults.proofs.Tells.{tells_value}
use Rattle.sdl_faults.proofs.telling.InputCircleTell.tell.Goals as goal

-- at its first field, and further at the others
pub returns : goal.returns
returns c =
    let document = c.args.document.now in
    let circle = c.args.self.now in
    let others = c.in_ok-others.others.items in
    let old = c.args.told.now.items in
    let of : Option SourcePosition → List SourcePosition → ToldFault = λ p os. record { position = p; others = os; message = circle_text circle } in
    let value : of c.place_of_field-position.result others ≡ told_circle document circle =
    ap (λ p. of p others) c.place_of_field-position.ensures ∙ ap (of (field_place document circle.first)) (c.in_ok-others.ensures ∙ ap (flat_map (field_places document)) c.as_slice.ensures.value) in
    on_ok_weaker c.tell.result (λ h. tells_value c.place_of_field-position.result others (circle_text circle) old c.tell.new.told.items h ∙ ap (λ v. told_values old ++ v ∷ []) value) c.tell.ensures
