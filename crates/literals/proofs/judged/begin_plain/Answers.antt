use Rattle.std.proofs.Common.{Some, None, Result, Ok, Err, OnOk, refl, sym, ◌∙◌, ap, subst, string_bytes, option_map}
use Rattle.std.proofs.lemmas.Result.{IfOk-weaker}
use Rattle.language_values.specs.declared.value.InputValue.TheOpen as v
use Rattle.language_values.specs.declared.value.InputValue.TheVariants as variant
use Rattle.language_values.specs.ValuesPrinted.{printed_value}
use Rattle.schema.specs.Wrapped.{plain_meta}
use Rattle.literals.specs.Begun.{IsKnown}
use Rattle.literals.specs.Judged.{Judged, ObjectFault}
use Rattle.literals.proofs.BegunLaws.{all_more, leads_begun, leads_here}
use Rattle.literals.proofs.ObjectLaws.{by_check, input_object, no_object, otherwise, plain_row}
use Rattle.literals.proofs.judged.begin_plain.Goals as goal

-- what is known stays so
kept_ok : {T E : Type 0} (P : Type 0) (r : Result T E) → OnOk r (P → P)
kept_ok P (Ok x) = λ p. p
kept_ok P (Err e) = tt

pub returns-in-Null-clause-leads : goal.returns-in-Null-clause-leads
returns-in-Null-clause-leads g c =
    let schema = c.args.schema.now in
    let may = g.S.CheckedScalar.may_answer in
    let shown = printed_value g.S.ScalarValue.text g.S.ScalarValue.str_of in
    leads_here schema may shown c.args.begun.now.items None (Judged schema may shown c.args.value.now (plain_meta c.args.meta.now))
    (plain_row schema may shown c.args.value.now v.Null c.args.meta.now None (c.in-Null.is ∙ sym variant.rolls-Null) refl)

pub returns-in-Variable-clause-leads : goal.returns-in-Variable-clause-leads
returns-in-Variable-clause-leads g c =
    let schema = c.args.schema.now in
    let may = g.S.CheckedScalar.may_answer in
    let shown = printed_value g.S.ScalarValue.text g.S.ScalarValue.str_of in
    leads_here schema may shown c.args.begun.now.items None (Judged schema may shown c.args.value.now (plain_meta c.args.meta.now))
    (plain_row schema may shown c.args.value.now (v.Variable c.in-Variable.field-0) c.args.meta.now None (c.in-Variable.is ∙ sym (variant.rolls-Variable c.in-Variable.field-0)) refl)

pub returns-in-Scalar-clause-leads : goal.returns-in-Scalar-clause-leads
returns-in-Scalar-clause-leads g c =
    let schema = c.args.schema.now in
    let may = g.S.CheckedScalar.may_answer in
    let shown = printed_value g.S.ScalarValue.text g.S.ScalarValue.str_of in
    IfOk-weaker c.fault_of_scalar.result _ _
    (λ a p. leads_here schema may shown c.args.begun.now.items (option_map string_bytes a) (Judged schema may shown c.args.value.now (plain_meta c.args.meta.now))
    (plain_row schema may shown c.args.value.now (v.Scalar c.in-Scalar.field-0) c.args.meta.now (option_map string_bytes a) (c.in-Scalar.is ∙ sym (variant.rolls-Scalar c.in-Scalar.field-0)) p))
    c.fault_of_scalar.ensures

pub returns-in-Enum-clause-leads : goal.returns-in-Enum-clause-leads
returns-in-Enum-clause-leads g c =
    let schema = c.args.schema.now in
    let may = g.S.CheckedScalar.may_answer in
    let shown = printed_value g.S.ScalarValue.text g.S.ScalarValue.str_of in
    IfOk-weaker c.ask.result _ _
    (λ a p. leads_here schema may shown c.args.begun.now.items (option_map string_bytes a) (Judged schema may shown c.args.value.now (plain_meta c.args.meta.now))
    (plain_row schema may shown c.args.value.now (v.Enum c.in-Enum.field-0) c.args.meta.now (option_map string_bytes a) (c.in-Enum.is ∙ sym (variant.rolls-Enum c.in-Enum.field-0)) p))
    c.ask.ensures

pub returns-in-List-clause-leads : goal.returns-in-List-clause-leads
returns-in-List-clause-leads g c =
    let schema = c.args.schema.now in
    let may = g.S.CheckedScalar.may_answer in
    let shown = printed_value g.S.ScalarValue.text g.S.ScalarValue.str_of in
    IfOk-weaker c.fault_of_list.result _ _
    (λ a p. leads_here schema may shown c.args.begun.now.items (option_map string_bytes a) (Judged schema may shown c.args.value.now (plain_meta c.args.meta.now))
    (plain_row schema may shown c.args.value.now (v.List c.in-List.field-0) c.args.meta.now (option_map string_bytes a) (c.in-List.is ∙ sym (variant.rolls-List c.in-List.field-0)) p))
    c.fault_of_list.ensures

pub returns-then-takes_any-clause-leads : goal.returns-then-takes_any-clause-leads
returns-then-takes_any-clause-leads g c =
    let schema = c.args.schema.now in
    let may = g.S.CheckedScalar.may_answer in
    let shown = printed_value g.S.ScalarValue.text g.S.ScalarValue.str_of in
    let value = c.args.value.now in
    let meta = c.args.meta.now in
    IfOk-weaker c.ask-then-takes_any.result _ _
    (λ a p. leads_here schema may shown c.args.begun.now.items (option_map string_bytes a) (Judged schema may shown value (plain_meta meta))
    (plain_row schema may shown value (v.Object c.in-Object.entries) meta (option_map string_bytes a) (c.in-Object.is ∙ sym (variant.rolls-Object c.in-Object.entries))
    (by_check schema may shown meta value (option_map string_bytes a) (ObjectFault schema may shown meta c.in-Object.entries.items (option_map string_bytes a)) (sym c.takes_any.ensures ∙ c.if-takes_any.true) p)))
    c.ask-then-takes_any.ensures

pub returns-in_ok-push-in-Object-clause-leads : goal.returns-in_ok-push-in-Object-clause-leads
returns-in_ok-push-in-Object-clause-leads g c =
    let schema = c.args.schema.now in
    let may = g.S.CheckedScalar.may_answer in
    let shown = printed_value g.S.ScalarValue.text g.S.ScalarValue.str_of in
    let value = c.args.value.now in
    let meta = c.args.meta.now in
    leads_begun schema may shown c.args.begun.now.items _ _ (Judged schema may shown value (plain_meta meta)) c.in_ok-push-in-Object.ensures.items
    (λ fault h. plain_row schema may shown value (v.Object c.in-Object.entries) meta fault (c.in-Object.is ∙ sym (variant.rolls-Object c.in-Object.entries))
    (otherwise schema may shown meta value fault (ObjectFault schema may shown meta c.in-Object.entries.items fault) (sym c.takes_any.ensures ∙ c.if-takes_any.false)
    (subst (λ es. ObjectFault schema may shown meta es fault) c.as_slice-all.ensures.value
    (input_object schema may shown meta c.as_slice-all.result.now fault (sym c.is_input_object.ensures ∙ c.if-is_input_object.true) h))))

pub returns-in_ok-no_object_fault-in-Object-clause-leads : goal.returns-in_ok-no_object_fault-in-Object-clause-leads
returns-in_ok-no_object_fault-in-Object-clause-leads g c =
    let schema = c.args.schema.now in
    let may = g.S.CheckedScalar.may_answer in
    let shown = printed_value g.S.ScalarValue.text g.S.ScalarValue.str_of in
    let value = c.args.value.now in
    let meta = c.args.meta.now in
    let fault = Some (string_bytes c.in_ok-no_object_fault-in-Object.field-0) in
    leads_here schema may shown c.args.begun.now.items fault (Judged schema may shown value (plain_meta meta))
    (plain_row schema may shown value (v.Object c.in-Object.entries) meta fault (c.in-Object.is ∙ sym (variant.rolls-Object c.in-Object.entries))
    (otherwise schema may shown meta value fault (ObjectFault schema may shown meta c.in-Object.entries.items fault) (sym c.takes_any.ensures ∙ c.if-takes_any.false)
    (no_object schema may shown meta c.in-Object.entries.items fault (sym c.is_input_object.ensures ∙ c.if-is_input_object.false) (ap (λ s. Some s) c.in_ok-no_object_fault-in-Object.ensures))))

pub returns-in_ok-push-in-Object-clause-known : goal.returns-in_ok-push-in-Object-clause-known
returns-in_ok-push-in-Object-clause-known g c = λ all. all_more (IsKnown c.args.schema.now) c.args.begun.now.items _ _ c.in_ok-push-in-Object.ensures.items c.requires.known all

pub returns-in-Null-clause-known : goal.returns-in-Null-clause-known
returns-in-Null-clause-known g c = λ all. all

pub returns-in-Variable-clause-known : goal.returns-in-Variable-clause-known
returns-in-Variable-clause-known g c = λ all. all

pub returns-in-Scalar-clause-known : goal.returns-in-Scalar-clause-known
returns-in-Scalar-clause-known g c = kept_ok _ c.fault_of_scalar.result

pub returns-in-Enum-clause-known : goal.returns-in-Enum-clause-known
returns-in-Enum-clause-known g c = kept_ok _ c.ask.result

pub returns-in-List-clause-known : goal.returns-in-List-clause-known
returns-in-List-clause-known g c = kept_ok _ c.fault_of_list.result

pub returns-then-takes_any-clause-known : goal.returns-then-takes_any-clause-known
returns-then-takes_any-clause-known g c = kept_ok _ c.ask-then-takes_any.result

pub returns-in_ok-no_object_fault-in-Object-clause-known : goal.returns-in_ok-no_object_fault-in-Object-clause-known
returns-in_ok-no_object_fault-in-Object-clause-known g c = λ all. all
