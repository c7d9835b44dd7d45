use Rattle.std.proofs.Common.{◌∷◌, [], ◌++◌, sym, ap, subst, ◌∙◌, refl, string_bytes}
use Rattle.variable_values.specs.Faults.{here}
use Rattle.variable_values.specs.Messages.{Adds, texts_of, told_after}
use Rattle.variable_values.specs.Places.{before}
use Rattle.variable_values.specs.Rows.{ByMeta, OfWhole}
use Rattle.variable_values.specs.Texts.{no_object_text}
use Rattle.variable_values.proofs.BegunLaws.{adds-end, whole}
use Rattle.variable_values.proofs.ObjectLaws.{by_no_object, by_object}
use Rattle.variable_values.proofs.Told.{adds-as, adds-one, as_long}
use Rattle.variable_values.proofs.faults.begun_by_meta.Goals as goal

pub returns-in_ok-add_faults_of_scalar-in-Scalar-clause-told : goal.returns-in_ok-add_faults_of_scalar-in-Scalar-clause-told
returns-in_ok-add_faults_of_scalar-in-Scalar-clause-told g c = λ end left.
    let schema = c.args.schema.now in
    let may = g.S.CheckedScalar.may_answer in
    let text = g.S.ScalarValue.text in
    let str_of = g.S.ScalarValue.str_of in
    let value = c.args.value.now in
    let P = ByMeta schema may text str_of value c.args.meta.now in
    adds-end P (before c.args.place.now) _ _ end left
    (subst (λ m. Adds (ByMeta schema may text str_of value m) (before c.args.place.now) (texts_of c.args.messages.now) (texts_of c.add_faults_of_scalar.new.messages)) (sym c.in-Scalar.is) c.in_ok-add_faults_of_scalar-in-Scalar.ensures)

pub returns-in_ok-add-in_default-value : goal.returns-in_ok-add-in_default-value
returns-in_ok-add-in_default-value g c =
    let schema = c.args.schema.now in
    let may = g.S.CheckedScalar.may_answer in
    let text = g.S.ScalarValue.text in
    let str_of = g.S.ScalarValue.str_of in
    let value = c.args.value.now in
    let object = c.in-InputObject.object in
    let P = ByMeta schema may text str_of value c.args.meta.now in
    let f = here (no_object_text (string_bytes object.name)) in
    let told = c.in_ok-no_object_message-in_default-value.ensures ∙ ap (λ n. told_after (before c.args.place.now) (here (no_object_text n))) c.as_str.ensures.value in
    record {
      told = λ end left.
          adds-end P (before c.args.place.now) _ _ end left
          (adds-one P (before c.args.place.now) _ _ f
          (by_no_object schema may text str_of value c.args.meta.now object (f ∷ []) c.in_default-value.not-Object c.in-InputObject.is refl) (c.in_ok-add-in_default-value.ensures ∙ ap (λ m. texts_of c.args.messages.now ++ m ∷ []) told));
      known = tt;
    }

pub returns-in_ok-of-in-Object-clause-told : goal.returns-in_ok-of-in-Object-clause-told
returns-in_ok-of-in-Object-clause-told g c = λ end left.
    let schema = c.args.schema.now in
    let may = g.S.CheckedScalar.may_answer in
    let text = g.S.ScalarValue.text in
    let str_of = g.S.ScalarValue.str_of in
    let value = c.args.value.now in
    let object = c.in-InputObject.object in
    let entries = c.as_slice.result.now in
    adds-as (OfWhole schema may text str_of object entries value) (ByMeta schema may text str_of value c.args.meta.now) (before c.args.place.now) (texts_of c.args.messages.now) end
    (λ fs h. by_object schema may text str_of value c.in-Object.entries c.args.meta.now object entries fs c.in-Object.is c.in-InputObject.is c.as_slice.ensures.value h)
    (whole schema may text str_of object value entries c.len-told.result c.in_ok-of-in-Object.of (before c.args.place.now) (texts_of c.args.messages.now) end c.in_ok-of-in-Object.ensures.of (sym (as_long c.args.messages.now c.len-told.result c.len-told.ensures)) left)
