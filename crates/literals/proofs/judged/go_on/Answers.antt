use Rattle.std.proofs.Common.{sym, subst, string_bytes, option_map}
use Rattle.std.proofs.lemmas.Result.{IfOk-weaker}
use Rattle.language_values.specs.ValuesPrinted.{printed_value}
use Rattle.literals.specs.Begun.{IsKnown, Left}
use Rattle.literals.specs.Expected.{expected_type}
use Rattle.literals.specs.FirstFault.{FirstFault}
use Rattle.literals.specs.Judged.{EntryFault, IsNone, Judged, LacksFields, keys_of}
use Rattle.literals.proofs.BegunLaws.{leads_as}
use Rattle.literals.proofs.judged.go_on.Goals as goal

pub next_entry-requires : goal.next_entry-requires
next_entry-requires g c = record { known = subst (IsKnown c.args.schema.now) c.in-Entries.is c.requires.known }

pub returns-in-Items-clause-leads : goal.returns-in-Items-clause-leads
returns-in-Items-clause-leads g c =
    let may = g.S.CheckedScalar.may_answer in
    let shown = printed_value g.S.ScalarValue.text g.S.ScalarValue.str_of in
    let schema = c.args.schema.now in
    IfOk-weaker c.begin_item.result _ _
    (λ a. leads_as schema may shown c.begin_item.new.begun.items c.args.begun.now.items (option_map string_bytes a) (FirstFault (λ x. Judged schema may shown x.item (expected_type c.in-Items.inner)) IsNone c.in-Items.items.now) (Left schema may shown c.args.part)
    (λ fault h. subst (λ p. Left schema may shown p fault) (sym c.in-Items.is) h))
    c.begin_item.ensures.leads

pub returns-in-Entries-clause-leads : goal.returns-in-Entries-clause-leads
returns-in-Entries-clause-leads g c =
    let may = g.S.CheckedScalar.may_answer in
    let shown = printed_value g.S.ScalarValue.text g.S.ScalarValue.str_of in
    let schema = c.args.schema.now in
    let meta = c.in-Entries.meta.now in
    IfOk-weaker c.next_entry.result _ _
    (λ a. leads_as schema may shown c.next_entry.new.begun.items c.args.begun.now.items (option_map string_bytes a) (FirstFault (EntryFault schema may shown meta) (LacksFields meta (keys_of c.in-Entries.all.now)) c.in-Entries.entries.now) (Left schema may shown c.args.part)
    (λ fault h. subst (λ p. Left schema may shown p fault) (sym c.in-Entries.is) h))
    c.next_entry.ensures.leads
