use Rattle.std.proofs.Common.{◌∷◌, Some, refl, sym, ◌∙◌, ap, subst, string_bytes, option_copied, option_map, inl}
use Rattle.std.proofs.lemmas.Result.{IfOk-weaker, on_ok_weaker}
use Rattle.language_values.specs.ValuesPrinted.{printed_value}
use Rattle.literals.specs.Begun.{IsKnown}
use Rattle.literals.specs.declared.begun.Begun.TheVariants as b
use Rattle.literals.specs.Expected.{expected_type}
use Rattle.literals.specs.FirstFault.{FirstFault}
use Rattle.literals.specs.Judged.{EntryFault, Judged, KeyedFault, LacksFields, keys_of}
use Rattle.literals.proofs.BegunLaws.{all_more, entries_after, leads_here, leads_into}
use Rattle.literals.proofs.FieldTypes.{field_listed}
use Rattle.literals.proofs.ObjectLaws.{unknown_key}
use Rattle.literals.proofs.judged.begin_entry.Goals as goal

pub type_of_field-expected-requires : goal.type_of_field-expected-requires
type_of_field-expected-requires g c =
    let known = c.requires.known in
    field_listed c.args.schema.now known.0 c.as_str-key.result.now c.args.meta.now c.in-Some.field.now known.1 (sym c.input_field_by_name.ensures ∙ ap option_copied c.in-Some.is)

pub returns-in_ok-unknown_fault-in-None-clause-leads : goal.returns-in_ok-unknown_fault-in-None-clause-leads
returns-in_ok-unknown_fault-in-None-clause-leads g c =
    let may = g.S.CheckedScalar.may_answer in
    let shown = printed_value g.S.ScalarValue.text g.S.ScalarValue.str_of in
    let schema = c.args.schema.now in
    let meta = c.args.meta.now in
    let entry = c.args.entry.now in
    let fault = Some (string_bytes c.in_ok-unknown_fault-in-None.field-0) in
    let told : KeyedFault schema may shown meta c.as_str-key.result.now entry.1.item fault =
    unknown_key schema may shown meta c.as_str-key.result.now entry.1.item fault (sym c.input_field_by_name.ensures ∙ ap option_copied c.in-None.is) (ap (λ s. Some s) c.in_ok-unknown_fault-in-None.ensures) in
    leads_here schema may shown c.args.begun.now.items fault (FirstFault (EntryFault schema may shown meta) (LacksFields meta (keys_of c.args.all.now)) (entry ∷ c.args.rest.now))
    (inl (subst (λ k. KeyedFault schema may shown meta k entry.1.item fault) c.as_str-key.ensures.value told, refl))

pub returns-in_ok-push-in-Some-clause-leads : goal.returns-in_ok-push-in-Some-clause-leads
returns-in_ok-push-in-Some-clause-leads g c =
    let may = g.S.CheckedScalar.may_answer in
    let shown = printed_value g.S.ScalarValue.text g.S.ScalarValue.str_of in
    let schema = c.args.schema.now in
    let meta = c.args.meta.now in
    let entry = c.args.entry.now in
    let w = expected_type c.type_of_field-expected.result in
    IfOk-weaker c.begin.result _ _
    (λ a. leads_into schema may shown c.args.begun.now.items c.push.new.self.items c.begin.new.begun.items (b.Entries c.args.meta (Some c.as_str-key.result) c.args.all c.args.rest) (option_map string_bytes a)
    (Judged schema may shown entry.1.item w) (FirstFault (EntryFault schema may shown meta) (LacksFields meta (keys_of c.args.all.now)) (entry ∷ c.args.rest.now)) c.in_ok-push-in-Some.ensures.items
    (entries_after schema may shown c.args.meta c.as_str-key.result c.args.all c.args.rest entry c.in-Some.field.now w c.as_str-key.ensures.value (sym c.input_field_by_name.ensures ∙ ap option_copied c.in-Some.is) c.type_of_field-expected.ensures.made))
    c.begin.ensures.leads

pub returns-in_ok-push-in-Some-clause-known : goal.returns-in_ok-push-in-Some-clause-known
returns-in_ok-push-in-Some-clause-known g c =
    let schema = c.args.schema.now in
    on_ok_weaker c.begin.result (λ h all. h (all_more (IsKnown schema) c.args.begun.now.items c.push.new.self.items (b.Entries c.args.meta (Some c.as_str-key.result) c.args.all c.args.rest) c.in_ok-push-in-Some.ensures.items c.requires.known all)) c.begin.ensures.known
