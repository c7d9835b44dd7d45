use Rattle.std.proofs.Common.{◌≡◌, ◌∷◌, sym, subst, string_bytes, option_map, IfOk}
use Rattle.std.proofs.lemmas.List.{nil_from_length}
use Rattle.std.proofs.lemmas.Result.{IfOk-weaker}
use Rattle.language_values.specs.ValuesPrinted.{printed_value}
use Rattle.literals.specs.Begun.{Leads}
use Rattle.literals.specs.FirstFault.{FirstFault}
use Rattle.literals.specs.Judged.{EntryFault, LacksFields, keys_of}
use Rattle.literals.proofs.BegunLaws.{leads_here}
use Rattle.literals.proofs.judged.next_entry.Goals as goal

pub returns-in-Some-clause-leads : goal.returns-in-Some-clause-leads
returns-in-Some-clause-leads g c =
    let may = g.S.CheckedScalar.may_answer in
    let shown = printed_value g.S.ScalarValue.text g.S.ScalarValue.str_of in
    let schema = c.args.schema.now in
    let meta = c.args.meta.now in
    let first : c.args.entries.now ≡ c.in-Some.entry.now ∷ c.in-Some.rest.now = c.in-Some.ensures.cases.0 in
    subst (λ es. IfOk c.begin_entry.result (λ fault. Leads schema may shown c.begin_entry.new.begun.items (option_map string_bytes fault) (FirstFault (EntryFault schema may shown meta) (LacksFields meta (keys_of c.args.all.now)) es) c.args.begun.now.items))
    (sym first) c.begin_entry.ensures.leads

pub returns-in-None-clause-leads : goal.returns-in-None-clause-leads
returns-in-None-clause-leads g c =
    let may = g.S.CheckedScalar.may_answer in
    let shown = printed_value g.S.ScalarValue.text g.S.ScalarValue.str_of in
    let schema = c.args.schema.now in
    let meta = c.args.meta.now in
    let lacks = LacksFields meta (keys_of c.args.all.now) in
    let told = FirstFault (EntryFault schema may shown meta) lacks in
    IfOk-weaker c.lacking.result _ _
    (λ a e. leads_here schema may shown c.args.begun.now.items (option_map string_bytes a) (told c.args.entries.now)
    (subst (λ es. told es (option_map string_bytes a)) (sym (nil_from_length c.args.entries.now c.in-None.ensures.cases)) e))
    c.lacking.ensures

pub returns-in-Some-clause-known : goal.returns-in-Some-clause-known
returns-in-Some-clause-known g c = c.begin_entry.ensures.known
