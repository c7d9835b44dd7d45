use Rattle.std.proofs.Common.{◌≡◌, Some, ap, sym, ◌∙◌, true≢false}
use Rattle.language_types.specs.declared.types.TypeModifier.TheVariants as m
use Rattle.language_values.specs.ValuesPrinted.{printed_value}
use Rattle.schema.specs.Wrapped.{wrap_meta}
use Rattle.literals.specs.Expected.{expected_type}
use Rattle.literals.specs.Judged.{printed_type}
use Rattle.literals.specs.Texts.{null_text}
use Rattle.literals.proofs.RowLaws.{null_row, non_null_row, conforming_row, length_row, single_row, items_row, moved}
use Rattle.literals.proofs.rows.step_of.Goals as goal

pub returns-then-is_null-clause-step : goal.returns-then-is_null-clause-step
returns-then-is_null-clause-step g c = λ schema fault e.
    let may = g.S.CheckedScalar.may_answer in
    let shown = printed_value g.S.ScalarValue.text g.S.ScalarValue.str_of in
    let at : expected_type c.args.expected ≡ wrap_meta m.NonNull (expected_type c.in-NonNull.inner) = c.in-NonNull.ensures in
    moved schema may shown c.args.value.now (expected_type c.args.expected) (wrap_meta m.NonNull (expected_type c.in-NonNull.inner)) fault at
    (null_row schema may shown c.args.value.now (expected_type c.in-NonNull.inner) fault (c.is_null.ensures.0 c.if-is_null.true) (e ∙ ap (λ w. Some (null_text (printed_type w))) at))

pub returns-else-is_null-clause-step : goal.returns-else-is_null-clause-step
returns-else-is_null-clause-step g c = λ schema fault j.
    let may = g.S.CheckedScalar.may_answer in
    let shown = printed_value g.S.ScalarValue.text g.S.ScalarValue.str_of in
    let at : expected_type c.args.expected ≡ wrap_meta m.NonNull (expected_type c.in-NonNull.inner) = c.in-NonNull.ensures in
    moved schema may shown c.args.value.now (expected_type c.args.expected) (wrap_meta m.NonNull (expected_type c.in-NonNull.inner)) fault at
    (non_null_row schema may shown c.args.value.now (expected_type c.in-NonNull.inner) fault (λ n. true≢false (sym (c.is_null.ensures.1 n) ∙ c.if-is_null.false)) j)

pub returns-in-None-clause-step : goal.returns-in-None-clause-step
returns-in-None-clause-step g c = λ schema fault e.
    let may = g.S.CheckedScalar.may_answer in
    let shown = printed_value g.S.ScalarValue.text g.S.ScalarValue.str_of in
    let at : expected_type c.args.expected ≡ wrap_meta (m.List c.in-List.size) (expected_type c.in-List.inner) = c.in-List.ensures in
    moved schema may shown c.args.value.now (expected_type c.args.expected) (wrap_meta (m.List c.in-List.size) (expected_type c.in-List.inner)) fault at
    (conforming_row schema may shown c.args.value.now c.in-List.size (expected_type c.in-List.inner) fault (sym c.count_items.ensures ∙ c.in-None.is) e)

pub returns-in-Some-length_expected-clause-step : goal.returns-in-Some-length_expected-clause-step
returns-in-Some-length_expected-clause-step g c = λ schema fault e.
    let may = g.S.CheckedScalar.may_answer in
    let shown = printed_value g.S.ScalarValue.text g.S.ScalarValue.str_of in
    let inner = expected_type c.in-List.inner in
    let at : expected_type c.args.expected ≡ wrap_meta (m.List c.in-List.size) inner = c.in-List.ensures in
    moved schema may shown c.args.value.now (expected_type c.args.expected) (wrap_meta (m.List c.in-List.size) inner) fault at
    (length_row schema may shown c.args.value.now c.in-List.size c.in-Some-length_expected.wanted c.in-Some.found inner fault (sym c.count_items.ensures ∙ c.in-Some.is) (sym c.length_expected.ensures ∙ c.in-Some-length_expected.is) e)

pub returns-then-is_list-clause-step : goal.returns-then-is_list-clause-step
returns-then-is_list-clause-step g c = λ schema fault j.
    let may = g.S.CheckedScalar.may_answer in
    let shown = printed_value g.S.ScalarValue.text g.S.ScalarValue.str_of in
    let inner = expected_type c.in-List.inner in
    let at : expected_type c.args.expected ≡ wrap_meta (m.List c.in-List.size) inner = c.in-List.ensures in
    moved schema may shown c.args.value.now (expected_type c.args.expected) (wrap_meta (m.List c.in-List.size) inner) fault at
    (items_row schema may shown c.args.value.now c.in-List.size c.in-Some.found inner fault (sym c.count_items.ensures ∙ c.in-Some.is) (sym c.length_expected.ensures ∙ c.in-None-length_expected.is) j)

pub returns-else-is_list-clause-step : goal.returns-else-is_list-clause-step
returns-else-is_list-clause-step g c = λ schema fault j.
    let may = g.S.CheckedScalar.may_answer in
    let shown = printed_value g.S.ScalarValue.text g.S.ScalarValue.str_of in
    let inner = expected_type c.in-List.inner in
    let at : expected_type c.args.expected ≡ wrap_meta (m.List c.in-List.size) inner = c.in-List.ensures in
    moved schema may shown c.args.value.now (expected_type c.args.expected) (wrap_meta (m.List c.in-List.size) inner) fault at
    (single_row schema may shown c.args.value.now c.in-List.size c.in-Some.found inner fault (sym c.count_items.ensures ∙ c.in-Some.is) (sym c.length_expected.ensures ∙ c.in-None-length_expected.is) (sym c.is_list.ensures ∙ c.if-is_list.false) j)
