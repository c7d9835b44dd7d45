use Rattle.std.proofs.Common.{string_bytes, option_map}
use Rattle.std.proofs.lemmas.Result.{IfOk-weaker, on_ok_weaker}
use Rattle.language_values.specs.ValuesPrinted.{printed_value}
use Rattle.literals.specs.Begun.{IsKnown}
use Rattle.literals.proofs.BegunLaws.{all_less, goes_nowhere, goes_on}
use Rattle.literals.proofs.judged.go_on_last.Goals as goal

pub go_on-requires : goal.go_on-requires
go_on-requires g c = record { known = (all_less (IsKnown c.args.schema.now) c.args.begun.now.items c.pop.new.self.items c.in-Some.part c.in-Some.ensures.items c.requires.known).1 }

pub returns-in-None-clause-leads : goal.returns-in-None-clause-leads
returns-in-None-clause-leads g c =
    let may = g.S.CheckedScalar.may_answer in
    let shown = printed_value g.S.ScalarValue.text g.S.ScalarValue.str_of in
    let schema = c.args.schema.now in
    goes_nowhere schema may shown c.args.begun.now.items c.pop.new.self.items c.in-None.ensures.items

pub returns-in-Some-clause-leads : goal.returns-in-Some-clause-leads
returns-in-Some-clause-leads g c =
    let may = g.S.CheckedScalar.may_answer in
    let shown = printed_value g.S.ScalarValue.text g.S.ScalarValue.str_of in
    let schema = c.args.schema.now in
    IfOk-weaker c.go_on.result _ _
    (λ a. goes_on schema may shown c.args.begun.now.items c.pop.new.self.items c.go_on.new.begun.items c.in-Some.part (option_map string_bytes a) c.in-Some.ensures.items)
    c.go_on.ensures.leads

pub returns-in-Some-clause-known : goal.returns-in-Some-clause-known
returns-in-Some-clause-known g c =
    on_ok_weaker c.go_on.result (λ h. h (all_less (IsKnown c.args.schema.now) c.args.begun.now.items c.pop.new.self.items c.in-Some.part c.in-Some.ensures.items c.requires.known).0) c.go_on.ensures.known
