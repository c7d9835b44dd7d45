use Rattle.std.proofs.Common.{◌≡◌, Err, Some, refl, subst, sym, ap, ◌∙◌, option_copied, string_bytes}
use Rattle.language_values.specs.ValuesPrinted.{printed_value}
use Rattle.meta.specs.Kinds.{check_of_meta}
use Rattle.literals.specs.Judged.{checked}
use Rattle.literals.proofs.judged.ask.Goals as goal

-- the text of the refusal is its own
pub returns-in-Err-Refused : goal.returns-in-Err-Refused
returns-in-Err-Refused g c =
    let may = g.S.CheckedScalar.may_answer in
    let shown = printed_value g.S.ScalarValue.text g.S.ScalarValue.str_of in
    let value = c.args.value.now in
    let check : check_of_meta c.args.meta.now ≡ Some c.in-Some.check.now = sym c.input_value_parse_fn.ensures ∙ ap option_copied c.in-Some.is in
    subst (λ o. checked may shown o value c.args.meta.now (Some (string_bytes c.in_ok-value_fault-in-Err-Refused.field-0))) (sym check)
    (c.in_ok-value_fault-in-Err-Refused.ensures, string_bytes c.in-Err-Refused.field-0-0, (c.in-Err-Refused.field-0-0, refl, subst (λ e. may c.in-Some.check.now value (Err e)) c.in-Err-Refused.field-0-is (subst (may c.in-Some.check.now value) c.in-Err-Refused.is c.run_check.ensures)))
