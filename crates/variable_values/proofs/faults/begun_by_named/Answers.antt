use Rattle.std.proofs.Common.{[], Some, sym, ◌∙◌, refl, true≢false}
use Rattle.std.proofs.lemmas.Result.{IfOk-weaker}
use Rattle.variable_values.specs.Places.{before}
use Rattle.variable_values.specs.Rows.{ByMeta, ByName}
use Rattle.variable_values.proofs.BegunLaws.{adds-end}
use Rattle.variable_values.proofs.RowLaws.{by_meta, null_by_name}
use Rattle.variable_values.proofs.Told.{adds-as, adds-none}
use Rattle.variable_values.proofs.faults.begun_by_named.Goals as goal

pub returns-then-is_null-clause-told : goal.returns-then-is_null-clause-told
returns-then-is_null-clause-told g c = λ end left.
    let schema = c.args.schema.now in
    let may = g.S.CheckedScalar.may_answer in
    let text = g.S.ScalarValue.text in
    let str_of = g.S.ScalarValue.str_of in
    let P = ByName schema may text str_of c.args.value.now (Some c.args.meta.now) in
    adds-end P (before c.args.place.now) _ _ end left
    (adds-none P (before c.args.place.now) _ (null_by_name schema may text str_of c.args.value.now (Some c.args.meta.now) [] (c.is_null.ensures.0 c.if-is_null.true) refl))

pub returns-else-is_null-clause-told : goal.returns-else-is_null-clause-told
returns-else-is_null-clause-told g c =
    let schema = c.args.schema.now in
    let may = g.S.CheckedScalar.may_answer in
    let text = g.S.ScalarValue.text in
    let str_of = g.S.ScalarValue.str_of in
    let value = c.args.value.now in
    let meta = c.args.meta.now in
    IfOk-weaker c.begun_by_meta.result _ _
    (λ part h end left. adds-as (ByMeta schema may text str_of value meta) (ByName schema may text str_of value (Some meta)) (before c.args.place.now) _ _
    (λ fs m. by_meta schema may text str_of value (Some meta) meta fs (λ n. true≢false (sym (c.is_null.ensures.1 n) ∙ c.if-is_null.false)) refl m) (h end left))
    c.begun_by_meta.ensures.told
