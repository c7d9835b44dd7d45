use Rattle.std.proofs.Common.{◌≡◌, [], ◌∷◌, ◌++◌, true, ap, sym, ◌∙◌, string_bytes, if◌then◌else◌}
use Rattle.std.proofs.lemmas.Result.{on_ok_weaker}
use Rattle.language_types.specs.Types.{printed, shape}
use Rattle.variable_values.specs.Dialects.{is_needed}
use Rattle.variable_values.specs.Faults.{here, left_out}
use Rattle.variable_values.specs.Messages.{texts_of, told_after}
use Rattle.variable_values.specs.Places.{before}
use Rattle.variable_values.specs.Texts.{null_text}
use Rattle.variable_values.proofs.Told.{adds-one}
use Rattle.variable_values.proofs.faults.add_absence.Goals as goal

pub returns-in_ok-null_message : goal.returns-in_ok-null_message
returns-in_ok-null_message g c =
    let schema = c.args.schema.now in
    let a = c.args.field.now in
    let place = before c.args.place.now in
    let f = here (null_text (printed (shape a.arg_type))) in
    let needed : is_needed schema a ≡ true = sym c.is_needed.ensures ∙ c.if-is_needed.true in
    let told : string_bytes c.in_ok-null_message.field-0 ≡ told_after place f = c.in_ok-null_message.ensures ∙ ap (λ t. told_after place (here (null_text (printed t)))) c.as_borrowed-expected.ensures in
    on_ok_weaker c.add.result
    (λ e. adds-one (λ fs. fs ≡ left_out schema a) place _ _ f (sym (ap (λ b. if b then f ∷ [] else []) needed)) (e ∙ ap (λ m. texts_of c.args.messages.now ++ m ∷ []) told)) c.add.ensures
