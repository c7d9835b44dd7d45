use Rattle.std.proofs.Common.{◌≡◌, [], ◌∷◌, ◌++◌, Some, ap, sym, ◌∙◌, subst, refl, length, arith}
use Rattle.std.proofs.lemmas.Result.{IfOk-weaker}
use Rattle.language_types.specs.Types.{borrowed_shape, printed}
use Rattle.variable_values.specs.Faults.{here, wrong_length}
use Rattle.variable_values.specs.Messages.{texts_of}
use Rattle.variable_values.specs.Places.{before}
use Rattle.variable_values.specs.Rows.{ByName, OfItems, Others}
use Rattle.variable_values.specs.Texts.{null_text}
use Rattle.variable_values.proofs.BegunLaws.{adds-end}
use Rattle.variable_values.proofs.RowLaws.{says_list}
use Rattle.variable_values.proofs.Told.{adds-as, adds-both, adds-none, adds-one}
use Rattle.variable_values.proofs.faults.begun_by.Goals as goal

pub returns-in-Nothing-clause-told : goal.returns-in-Nothing-clause-told
returns-in-Nothing-clause-told g c = λ end left.
    let P = Others c.args.schema.now g.S.CheckedScalar.may_answer g.S.ScalarValue.text g.S.ScalarValue.str_of c.args.value.now (borrowed_shape c.args.expected) in
    adds-end P (before c.args.place.now) _ _ end left (adds-none P (before c.args.place.now) _ (c.in-Nothing.ensures.row [] refl))

pub returns-in_ok-add-in-Null-clause-told : goal.returns-in_ok-add-in-Null-clause-told
returns-in_ok-add-in-Null-clause-told g c = λ end left.
    let P = Others c.args.schema.now g.S.CheckedScalar.may_answer g.S.ScalarValue.text g.S.ScalarValue.str_of c.args.value.now (borrowed_shape c.args.expected) in
    let f = here (null_text (printed (borrowed_shape c.in-Null.at))) in
    adds-end P (before c.args.place.now) _ _ end left
    (adds-one P (before c.args.place.now) _ _ f
    (c.in-Null.ensures.row (f ∷ []) refl) (c.in_ok-add-in-Null.ensures ∙ ap (λ m. texts_of c.args.messages.now ++ m ∷ []) c.in_ok-null_message-in-Null.ensures))

pub returns-in_ok-add_length_fault-in-List-clause-told : goal.returns-in_ok-add_length_fault-in-List-clause-told
returns-in_ok-add_length_fault-in-List-clause-told g c = λ end left.
    let schema = c.args.schema.now in
    let may = g.S.CheckedScalar.may_answer in
    let text = g.S.ScalarValue.text in
    let str_of = g.S.ScalarValue.str_of in
    let value = c.args.value.now in
    let inner = borrowed_shape c.in-Items.inner in
    let long : c.len.result ≡ length c.in-List.items.items = let ok = c.in-List.items.ok.0 in let len = c.len.ensures in omega (arith, ok, len) in
    adds-both (λ fs. fs ≡ wrong_length c.in-Items.size c.len.result) (OfItems schema may text str_of inner c.as_slice.result.now) (Others schema may text str_of value (borrowed_shape c.args.expected)) (before c.args.place.now) _ _ _
    (λ fs gs e h. c.in-Items.ensures.row (fs ++ gs) (says_list schema may text str_of value c.in-List.items c.len.result c.as_slice.result.now inner c.in-Items.size fs gs c.in-List.is long c.as_slice.ensures.value e h))
    c.in_ok-add_length_fault-in-List.ensures left

pub returns-in-Named-clause-told : goal.returns-in-Named-clause-told
returns-in-Named-clause-told g c =
    let schema = c.args.schema.now in
    let may = g.S.CheckedScalar.may_answer in
    let text = g.S.ScalarValue.text in
    let str_of = g.S.ScalarValue.str_of in
    let value = c.args.value.now in
    let meta = c.input_type-meta.result.now in
    IfOk-weaker c.begun_by_named.result _ _
    (λ part h end left. adds-as (ByName schema may text str_of value (Some meta)) (Others schema may text str_of value (borrowed_shape c.args.expected)) (before c.args.place.now) _ _
    (λ fs n. c.in-Named.ensures.row fs (subst (λ o. ByName schema may text str_of value o fs) (sym c.input_type-meta.ensures.named) n)) (h end left))
    c.begun_by_named.ensures.told
