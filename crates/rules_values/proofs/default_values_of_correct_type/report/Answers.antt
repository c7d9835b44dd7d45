use Rattle.std.proofs.Common.{◌≡◌, OnOk, ap, ◌∙◌, subst}
use Rattle.std.proofs.lemmas.Result.{on_ok_weaker}
use Rattle.language_types.specs.Types.{printed, shape}
use Rattle.language_values.specs.ValuesPrinted.{printed_value}
use Rattle.walk.specs.Rule.{Appended}
use Rattle.rules_values.specs.DefaultValuesOfCorrectType.{default_of, needless_default_message}
use Rattle.rules_values.specs.Faults.{error_at}
use Rattle.rules_values.proofs.default_values_of_correct_type.report.Goals as goal

-- a default value that is never used
pub returns-then-is_never_null-clause-ok : goal.returns-then-is_never_null-clause-ok
returns-then-is_never_null-clause-ok g c =
    let may = g.S.CheckedScalar.may_answer in
    let shown = printed_value g.S.ScalarValue.text g.S.ScalarValue.str_of in
    let name = c.args.name.now in
    let t = shape c.args.t.now in
    let value = c.args.value.now in
    let es = error_at value c.as_str.result.now in
    let said : c.as_str.result.now ≡ needless_default_message name (printed t) = c.as_str.ensures.value ∙ c.in_ok-message.ensures in
    on_ok_weaker c.report_error.result (λ e. (es, subst (λ b. default_of may shown b c.args.ctx.now.schema name t value es) c.if-is_never_null.ensures (ap (error_at value) said), e)) c.report_error.ensures.ok

-- any other
pub returns-clause-ok : goal.returns-clause-ok
returns-clause-ok g c =
    let may = g.S.CheckedScalar.may_answer in
    let shown = printed_value g.S.ScalarValue.text g.S.ScalarValue.str_of in
    subst (λ b. OnOk c.report_faulty_default.result (Appended (default_of may shown b c.args.ctx.now.schema c.args.name.now (shape c.args.t.now) c.args.value.now) c.args.ctx.now c.report_faulty_default.new.ctx))
    c.if-is_never_null.ensures c.report_faulty_default.ensures.ok
