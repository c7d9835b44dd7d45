use Rattle.std.proofs.Common.{◌≡◌, [], ◌∷◌, ◌++◌, inr, refl, ap, ◌∙◌, subst, string_bytes, option_map}
use Rattle.std.proofs.lemmas.Result.{on_ok_weaker}
use Rattle.language_values.specs.ValuesPrinted.{printed_value}
use Rattle.meta.specs.Answers.{RefusesWith}
use Rattle.meta.specs.Kept.{input_object_check}
use Rattle.variable_values.specs.Faults.{Checked, here}
use Rattle.variable_values.specs.Messages.{texts_of, told_after}
use Rattle.variable_values.specs.Places.{before}
use Rattle.variable_values.specs.Rows.{Answered}
use Rattle.variable_values.specs.Texts.{input_text}
use Rattle.variable_values.proofs.Told.{adds-one}
use Rattle.variable_values.proofs.faults.add_refusal_of_object.Goals as goal

pub returns-in_ok-input_message-in-Some : goal.returns-in_ok-input_message-in-Some
returns-in_ok-input_message-in-Some g c =
    let may = g.S.CheckedScalar.may_answer in
    let value = c.args.value.now in
    let object = c.args.object.now in
    let shown = printed_value g.S.ScalarValue.text g.S.ScalarValue.str_of value in
    let why = string_bytes c.in-Some.why in
    let said = input_text (string_bytes object.name) shown in
    let refused : RefusesWith may (input_object_check object) value why =
    subst (λ k. RefusesWith may k value why) c.input_value_parse_fn.ensures (subst (λ o. Answered may c.input_value_parse_fn.result.now value (option_map string_bytes o)) c.in-Some.is c.in_ok-refusal.ensures) in
    let told : string_bytes c.in_ok-input_message-in-Some.field-0 ≡ told_after (before c.args.place.now) (here (said why)) =
    c.in_ok-input_message-in-Some.ensures ∙ ap (λ n. told_after (before c.args.place.now) (here (input_text n shown c.as_str-in-Some.result.now))) c.as_str.ensures.value
    ∙ ap (λ w. told_after (before c.args.place.now) (here (said w))) c.as_str-in-Some.ensures.value in
    on_ok_weaker c.add.result
    (λ e. adds-one (Checked may (input_object_check object) value said []) (before c.args.place.now) _ _ (here (said why)) (inr (why, refused, refl)) (e ∙ ap (λ m. texts_of c.args.messages.now ++ m ∷ []) told))
    c.add.ensures
