use Rattle.std.proofs.Common.{◌≡◌, ◌++◌, ◌∷◌, [], Some, ap, sym, ◌∙◌, false, map, option_copied, string_bytes}
use Rattle.std.proofs.lemmas.Result.{on_ok_weaker}
use Rattle.language_values.specs.declared.value.InputValue.{out-InputValue}
use Rattle.meta.specs.declared.enum_values.EnumValue.{EnumValue}
use Rattle.schema.specs.Possible.{is_among}
use Rattle.variable_values.specs.Faults.{enum_faults, here, name_in}
use Rattle.variable_values.specs.Messages.{texts_of, told_after}
use Rattle.variable_values.specs.Places.{before}
use Rattle.variable_values.specs.Texts.{enum_text}
use Rattle.variable_values.proofs.RowLaws.{enum_unlisted}
use Rattle.variable_values.proofs.Told.{adds-one}
use Rattle.variable_values.proofs.faults.add_fault_of_enum.Goals as goal

pub returns-in_ok-enum_message-in-Some : goal.returns-in_ok-enum_message-in-Some
returns-in_ok-enum_message-in-Some g c =
    let place = before c.args.place.now in
    let old = texts_of c.args.messages.now in
    let new = texts_of c.add-else-is_value_of.new.messages in
    let named = name_in g.S.ScalarValue.str_of (out-InputValue g.row.S.Denot c.args.value.now) in
    let values = map (λ (n : EnumValue). string_bytes n.name) c.args.known.now.values.items in
    let name = string_bytes c.args.known.now.name in
    let some : named ≡ Some c.in-Some.name.now = sym c.name_of.ensures ∙ ap option_copied c.in-Some.is in
    let unlisted : is_among values c.in-Some.name.now ≡ false =
    ap (λ vs. is_among (map (λ (n : EnumValue). string_bytes n.name) vs) c.in-Some.name.now) (sym c.as_slice.ensures.value) ∙ sym c.is_value_of.ensures ∙ c.if-is_value_of.false in
    let told = c.in_ok-enum_message-in-Some.ensures ∙ ap (λ n. told_after place (here (enum_text n))) c.as_str-else-is_value_of.ensures.value in
    on_ok_weaker c.add-else-is_value_of.result
    (λ e. adds-one (λ fs. fs ≡ enum_faults name values named) place old new (here (enum_text name)) (enum_unlisted name values named c.in-Some.name.now some unlisted) (e ∙ ap (λ m. old ++ m ∷ []) told))
    c.add-else-is_value_of.ensures
