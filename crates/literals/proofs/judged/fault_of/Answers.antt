use Rattle.std.proofs.Common.{None, Some, ap, string_bytes, option_map}
use Rattle.std.proofs.lemmas.Result.{IfOk-weaker}
use Rattle.language_values.specs.ValuesPrinted.{printed_value}
use Rattle.literals.specs.Expected.{expected_type}
use Rattle.literals.specs.Judged.{Judged}
use Rattle.literals.proofs.BegunLaws.{leads_first, told_after}
use Rattle.literals.proofs.judged.fault_of.Goals as goal

pub returns-in-Some : goal.returns-in-Some
returns-in-Some g c =
    let may = g.S.CheckedScalar.may_answer in
    let shown = printed_value g.S.ScalarValue.text g.S.ScalarValue.str_of in
    let schema = c.args.schema.now in
    let new = c.begin.new.begun.items in
    let said = string_bytes c.in-Some.fault in
    IfOk-weaker c.within.result _ _
    (λ a e. leads_first schema may shown new _ (Some said) (option_map string_bytes a) (Judged schema may shown c.args.value.now (expected_type c.args.expected)) c.in_ok-fault.ensures.leads (ap (option_map string_bytes) c.in-Some.is)
    (told_after schema may shown new c.as_slice.result.now said c.as_str.result.now (option_map string_bytes a) e c.as_slice.ensures.value c.as_str.ensures.value) c.new-begun.ensures.items)
    c.within.ensures

pub returns-in-None : goal.returns-in-None
returns-in-None g c =
    let may = g.S.CheckedScalar.may_answer in
    let shown = printed_value g.S.ScalarValue.text g.S.ScalarValue.str_of in
    let schema = c.args.schema.now in
    let new = c.begin.new.begun.items in
    IfOk-weaker c.fault_of_left.result _ _
    (λ a after. leads_first schema may shown new _ None (option_map string_bytes a) (Judged schema may shown c.args.value.now (expected_type c.args.expected)) c.in_ok-fault.ensures.leads (ap (option_map string_bytes) c.in-None.is)
    after c.new-begun.ensures.items)
    c.fault_of_left.ensures
