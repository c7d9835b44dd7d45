use Rattle.std.proofs.Common.{◌≡◌, ◌∷◌, None, refl, subst, sym, string_bytes, option_map}
use Rattle.std.proofs.lemmas.List.{nil_from_length}
use Rattle.std.proofs.lemmas.Result.{IfOk-weaker, on_ok_weaker}
use Rattle.language_values.specs.ValuesPrinted.{printed_value}
use Rattle.literals.specs.Begun.{IsKnown}
use Rattle.literals.specs.declared.begun.Begun.TheVariants as b
use Rattle.literals.specs.Expected.{expected_type}
use Rattle.literals.specs.FirstFault.{FirstFault}
use Rattle.literals.specs.Judged.{IsNone, Judged}
use Rattle.literals.proofs.BegunLaws.{all_more, items_after, leads_here, leads_into}
use Rattle.literals.proofs.judged.begin_item.Goals as goal

pub returns-in_ok-push-in-Some-clause-leads : goal.returns-in_ok-push-in-Some-clause-leads
returns-in_ok-push-in-Some-clause-leads g c =
    let may = g.S.CheckedScalar.may_answer in
    let shown = printed_value g.S.ScalarValue.text g.S.ScalarValue.str_of in
    let schema = c.args.schema.now in
    let inner = c.args.inner in
    let item = c.in-Some.item.now in
    let first : c.args.items.now ≡ item ∷ c.in-Some.rest.now = c.in-Some.ensures.cases.0 in
    IfOk-weaker c.begin.result _ _
    (λ a. leads_into schema may shown c.args.begun.now.items c.push.new.self.items c.begin.new.begun.items (b.Items inner c.in-Some.rest) (option_map string_bytes a)
    (Judged schema may shown item.item (expected_type inner)) (FirstFault (λ x. Judged schema may shown x.item (expected_type inner)) IsNone c.args.items.now) c.in_ok-push-in-Some.ensures.items
    (items_after schema may shown inner c.args.items.now item c.in-Some.rest first))
    c.begin.ensures.leads

pub returns-in_ok-push-in-Some-clause-known : goal.returns-in_ok-push-in-Some-clause-known
returns-in_ok-push-in-Some-clause-known g c =
    let schema = c.args.schema.now in
    on_ok_weaker c.begin.result (λ h all. h (all_more (IsKnown schema) c.args.begun.now.items c.push.new.self.items (b.Items c.args.inner c.in-Some.rest) c.in_ok-push-in-Some.ensures.items c.requires.known all)) c.begin.ensures.known

pub returns-in-None-clause-leads : goal.returns-in-None-clause-leads
returns-in-None-clause-leads g c =
    let may = g.S.CheckedScalar.may_answer in
    let shown = printed_value g.S.ScalarValue.text g.S.ScalarValue.str_of in
    let schema = c.args.schema.now in
    let told = FirstFault (λ x. Judged schema may shown x.item (expected_type c.args.inner)) IsNone in
    leads_here schema may shown c.args.begun.now.items None (told c.args.items.now)
    (subst (λ es. told es None) (sym (nil_from_length c.args.items.now c.in-None.ensures.cases)) refl)

pub returns-in-None-clause-known : goal.returns-in-None-clause-known
returns-in-None-clause-known g c = λ all. all
