use Rattle.std.proofs.Common.{◌≡◌, [], ◌∷◌, Some, None, ap, sym, ◌∙◌, subst, true≢false, option_copied}
use Rattle.language_types.specs.declared.types.TypeModifier.TheVariants as m
use Rattle.language_types.specs.Types.{borrowed_shape, inner_of, outermost, printed, wrapped_by}
use Rattle.language_values.specs.Values.{list_items}
use Rattle.variable_values.specs.Faults.{here}
use Rattle.variable_values.specs.Rows.{Others, SaysItems}
use Rattle.variable_values.specs.Texts.{null_text}
use Rattle.variable_values.proofs.RowLaws.{all_others, free_row, is_listed, items_row, lengths_list, lengths_null, lengths_plain, moved, moved_others, named_row, no_list, null_row, others_non_null, others_single, unwrapped}
use Rattle.variable_values.proofs.rows.step_of.Goals as goal

pub returns-in-None-clause-step : goal.returns-in-None-clause-step
returns-in-None-clause-step g c = λ schema fs j.
    let none : outermost (borrowed_shape c.args.expected).modifiers ≡ None = sym c.modifier.ensures ∙ ap option_copied c.in-None.is in
    let may = g.S.CheckedScalar.may_answer in
    let text = g.S.ScalarValue.text in
    let str_of = g.S.ScalarValue.str_of in
    let at = borrowed_shape c.args.expected in
    all_others schema may text str_of c.args.value.now at fs (lengths_plain c.args.value.now at none)
    (named_row schema may text str_of c.args.value.now at c.innermost_name.result.now fs none c.innermost_name.ensures j)

pub returns-then-is_null-clause-step : goal.returns-then-is_null-clause-step
returns-then-is_null-clause-step g c = λ schema fs e.
    let may = g.S.CheckedScalar.may_answer in
    let text = g.S.ScalarValue.text in
    let str_of = g.S.ScalarValue.str_of in
    let at = borrowed_shape c.args.expected in
    let some : outermost at.modifiers ≡ Some m.NonNull = sym c.modifier.ensures ∙ ap option_copied c.in-Some-NonNull.is ∙ ap (λ x. Some x) c.in-Some-NonNull.field-0-is in
    let is : at ≡ wrapped_by m.NonNull (inner_of at) = unwrapped at m.NonNull some in
    all_others schema may text str_of c.args.value.now at fs (lengths_null c.args.value.now at (c.is_null.ensures.0 c.if-is_null.true))
    (moved schema may text str_of c.args.value.now at (wrapped_by m.NonNull (inner_of at)) fs is
    (null_row schema may text str_of c.args.value.now (inner_of at) fs (c.is_null.ensures.0 c.if-is_null.true) (e ∙ ap (λ w. here (null_text (printed w)) ∷ []) is)))

pub returns-else-is_null-clause-step : goal.returns-else-is_null-clause-step
returns-else-is_null-clause-step g c = λ schema fs j.
    let may = g.S.CheckedScalar.may_answer in
    let text = g.S.ScalarValue.text in
    let str_of = g.S.ScalarValue.str_of in
    let at = borrowed_shape c.args.expected in
    let some : outermost at.modifiers ≡ Some m.NonNull = sym c.modifier.ensures ∙ ap option_copied c.in-Some-NonNull.is ∙ ap (λ x. Some x) c.in-Some-NonNull.field-0-is in
    moved_others schema may text str_of c.args.value.now at (wrapped_by m.NonNull (inner_of at)) fs (unwrapped at m.NonNull some)
    (others_non_null schema may text str_of c.args.value.now (inner_of at) fs (λ n. true≢false (sym (c.is_null.ensures.1 n) ∙ c.if-is_null.false))
    (subst (λ u. Others schema may text str_of c.args.value.now u fs) c.borrow_inner.ensures j))

pub returns-in-Null-clause-step : goal.returns-in-Null-clause-step
returns-in-Null-clause-step g c = λ schema fs e.
    let may = g.S.CheckedScalar.may_answer in
    let text = g.S.ScalarValue.text in
    let str_of = g.S.ScalarValue.str_of in
    let at = borrowed_shape c.args.expected in
    let list = m.List c.in-Some-List.size in
    let is : c.in-Some-List.field-0.now ≡ list = cc in
    let some : outermost at.modifiers ≡ Some list = sym c.modifier.ensures ∙ ap option_copied c.in-Some-List.is ∙ ap (λ x. Some x) is in
    all_others schema may text str_of c.args.value.now at fs (lengths_null c.args.value.now at c.in-Null.is)
    (moved schema may text str_of c.args.value.now at (wrapped_by list (inner_of at)) fs (unwrapped at list some)
    (free_row schema may text str_of c.args.value.now c.in-Some-List.size (inner_of at) fs c.in-Null.is e))

pub returns-in-List-clause-step : goal.returns-in-List-clause-step
returns-in-List-clause-step g c = λ schema fs j.
    let may = g.S.CheckedScalar.may_answer in
    let text = g.S.ScalarValue.text in
    let str_of = g.S.ScalarValue.str_of in
    let at = borrowed_shape c.args.expected in
    let list = m.List c.in-Some-List.size in
    let is : c.in-Some-List.field-0.now ≡ list = cc in
    let some : outermost at.modifiers ≡ Some list = sym c.modifier.ensures ∙ ap option_copied c.in-Some-List.is ∙ ap (λ x. Some x) is in
    all_others schema may text str_of c.args.value.now at fs (lengths_list c.args.value.now at (is_listed c.args.value.now c.in-List.field-0 c.in-List.is))
    (moved schema may text str_of c.args.value.now at (wrapped_by list (inner_of at)) fs (unwrapped at list some)
    (items_row schema may text str_of c.args.value.now c.in-Some-List.size (inner_of at) fs
    (subst (λ u. SaysItems schema may text str_of (list_items c.args.value.now) u c.in-Some-List.size fs) c.borrow_inner-in-List.ensures j)))

pub returns-in_default-clause-step : goal.returns-in_default-clause-step
returns-in_default-clause-step g c = λ schema fs j.
    let may = g.S.CheckedScalar.may_answer in
    let text = g.S.ScalarValue.text in
    let str_of = g.S.ScalarValue.str_of in
    let at = borrowed_shape c.args.expected in
    let list = m.List c.in-Some-List.size in
    let is : c.in-Some-List.field-0.now ≡ list = cc in
    let some : outermost at.modifiers ≡ Some list = sym c.modifier.ensures ∙ ap option_copied c.in-Some-List.is ∙ ap (λ x. Some x) is in
    moved_others schema may text str_of c.args.value.now at (wrapped_by list (inner_of at)) fs (unwrapped at list some)
    (others_single schema may text str_of c.args.value.now c.in-Some-List.size (inner_of at) fs c.in_default.not-Null (no_list schema may text str_of c.args.value.now c.in_default.not-List)
    (subst (λ u. Others schema may text str_of c.args.value.now u fs) c.borrow_inner-in_default.ensures j))
