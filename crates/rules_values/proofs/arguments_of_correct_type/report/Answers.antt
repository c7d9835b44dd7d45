use Rattle.std.proofs.Common.{◌≡◌, [], Some, None, refl, sym, ap, ◌∙◌, subst, option_map, string_bytes}
use Rattle.language_types.specs.Types.{borrowed_shape}
use Rattle.language_values.specs.ValuesPrinted.{printed_value}
use Rattle.literals.specs.Judged.{WrittenFault}
use Rattle.walk.specs.ContextState.{typing, with_errors}
use Rattle.walk.proofs.Kept.{with_none}
use Rattle.rules_values.specs.ArgumentsOfCorrectType.{wrong_argument_message}
use Rattle.rules_values.specs.Faults.{error_at, reported}
use Rattle.rules_values.proofs.arguments_of_correct_type.report.Goals as goal

pub returns-in_ok-report_error-clause-ok : goal.returns-in_ok-report_error-clause-ok
returns-in_ok-report_error-clause-ok g c =
    let may = g.S.CheckedScalar.may_answer in
    let shown = printed_value g.S.ScalarValue.text g.S.ScalarValue.str_of in
    let schema = c.args.ctx.now.schema in
    let name = c.args.argument.now.0.item.now in
    let value = c.args.argument.now.1 in
    let t = borrowed_shape c.in-Some.written in
    let m = string_bytes c.in-Some-2.fault in
    let es = error_at value c.as_str-in-Some-2.result.now in
    let is : Some t ≡ (typing c.args.ctx.now).input = sym (ap (option_map borrowed_shape) c.in-Some.is) ∙ c.current_input_type_literal.ensures in
    let told : WrittenFault schema may shown value.item t (Some m) = subst (λ o. WrittenFault schema may shown value.item t (option_map string_bytes o)) c.in-Some-2.is c.in_ok-fault.ensures in
    let said : c.as_str-in-Some-2.result.now ≡ wrong_argument_message name m = c.as_str-in-Some-2.ensures.value ∙ c.in_ok-message.ensures ∙ ap (wrong_argument_message name) c.as_str.ensures.value in
    (es, subst (λ o. reported may shown schema (wrong_argument_message name) o value es) is (Some m, told, ap (error_at value) said), c.in_ok-report_error.ensures.ok)

pub returns-in_default-2-clause-ok : goal.returns-in_default-2-clause-ok
returns-in_default-2-clause-ok g c =
    let may = g.S.CheckedScalar.may_answer in
    let shown = printed_value g.S.ScalarValue.text g.S.ScalarValue.str_of in
    let schema = c.args.ctx.now.schema in
    let name = c.args.argument.now.0.item.now in
    let value = c.args.argument.now.1 in
    let t = borrowed_shape c.in-Some.written in
    let is : Some t ≡ (typing c.args.ctx.now).input = sym (ap (option_map borrowed_shape) c.in-Some.is) ∙ c.current_input_type_literal.ensures in
    let told : WrittenFault schema may shown value.item t None = subst (λ o. WrittenFault schema may shown value.item t (option_map string_bytes o)) c.in_default-2.is c.in_ok-fault.ensures in
    let same : c.args.ctx.now ≡ with_errors c.args.ctx.now [] = with_none c.args.ctx.now in
    ([], subst (λ o. reported may shown schema (wrong_argument_message name) o value []) is (None, told, refl), same)
