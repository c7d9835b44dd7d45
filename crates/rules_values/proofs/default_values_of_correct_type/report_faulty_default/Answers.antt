use Rattle.std.proofs.Common.{◌≡◌, [], Some, None, refl, ap, ◌∙◌, subst, option_map, string_bytes}
use Rattle.language_types.specs.Types.{borrowed_shape, printed, shape}
use Rattle.language_values.specs.ValuesPrinted.{printed_value}
use Rattle.literals.specs.Judged.{WrittenFault}
use Rattle.walk.specs.ContextState.{with_errors}
use Rattle.walk.proofs.Kept.{with_none}
use Rattle.rules_values.specs.DefaultValuesOfCorrectType.{wrong_default_message}
use Rattle.rules_values.specs.Faults.{error_at}
use Rattle.rules_values.proofs.default_values_of_correct_type.report_faulty_default.Goals as goal

pub returns-in_ok-report_error-clause-ok : goal.returns-in_ok-report_error-clause-ok
returns-in_ok-report_error-clause-ok g c =
    let may = g.S.CheckedScalar.may_answer in
    let shown = printed_value g.S.ScalarValue.text g.S.ScalarValue.str_of in
    let schema = c.args.ctx.now.schema in
    let name = c.args.name.now in
    let t = shape c.args.t.now in
    let value = c.args.value.now in
    let m = string_bytes c.in-Some.fault in
    let es = error_at value c.as_str-in-Some.result.now in
    let told : WrittenFault schema may shown value.item t (Some m) =
    subst (λ z. WrittenFault schema may shown value.item z (Some m)) c.as_borrowed.ensures
    (subst (λ o. WrittenFault schema may shown value.item (borrowed_shape c.as_borrowed.result) (option_map string_bytes o)) c.in-Some.is c.in_ok-fault.ensures) in
    let said : c.as_str-in-Some.result.now ≡ wrong_default_message name (printed t) m = c.as_str-in-Some.ensures.value ∙ c.in_ok-message.ensures ∙ ap (wrong_default_message name (printed t)) c.as_str.ensures.value in
    (es, (Some m, told, ap (error_at value) said), c.in_ok-report_error.ensures.ok)

pub returns-in_default-clause-ok : goal.returns-in_default-clause-ok
returns-in_default-clause-ok g c =
    let may = g.S.CheckedScalar.may_answer in
    let shown = printed_value g.S.ScalarValue.text g.S.ScalarValue.str_of in
    let schema = c.args.ctx.now.schema in
    let t = shape c.args.t.now in
    let value = c.args.value.now in
    let told : WrittenFault schema may shown value.item t None =
    subst (λ z. WrittenFault schema may shown value.item z None) c.as_borrowed.ensures
    (subst (λ o. WrittenFault schema may shown value.item (borrowed_shape c.as_borrowed.result) (option_map string_bytes o)) c.in_default.is c.in_ok-fault.ensures) in
    let same : c.args.ctx.now ≡ with_errors c.args.ctx.now [] = with_none c.args.ctx.now in
    ([], (None, told, refl), same)
