use Rattle.std.proofs.lemmas.Result.{on_ok_weaker}
use Rattle.variable_values.specs.Begun.{IsKnown}
use Rattle.variable_values.specs.Messages.{texts_of}
use Rattle.variable_values.proofs.BegunLaws.{all_less, goes_nowhere, goes_on}
use Rattle.variable_values.proofs.faults.go_on_last.Goals as goal

pub go_on-requires : goal.go_on-requires
go_on-requires g c = (all_less (IsKnown c.args.schema.now) c.args.begun.now.items c.pop.new.self.items c.in-Some.part c.in-Some.ensures.items c.requires).1

pub returns-in-None-clause-leads : goal.returns-in-None-clause-leads
returns-in-None-clause-leads g c =
    goes_nowhere c.args.schema.now g.S.CheckedScalar.may_answer g.S.ScalarValue.text g.S.ScalarValue.str_of c.args.variable.now c.args.begun.now.items c.pop.new.self.items c.args.steps.now.items (texts_of c.args.messages.now) c.in-None.ensures.items

pub returns-in-Some-clause-leads : goal.returns-in-Some-clause-leads
returns-in-Some-clause-leads g c =
    on_ok_weaker c.go_on.result
    (goes_on c.args.schema.now g.S.CheckedScalar.may_answer g.S.ScalarValue.text g.S.ScalarValue.str_of c.args.variable.now c.args.begun.now.items c.pop.new.self.items c.go_on.new.begun.items c.in-Some.part c.args.steps.now.items c.go_on.new.steps.items (texts_of c.go_on.new.messages) (texts_of c.args.messages.now) c.in-Some.ensures.items)
    c.go_on.ensures.leads

pub returns-in-Some-clause-known : goal.returns-in-Some-clause-known
returns-in-Some-clause-known g c =
    on_ok_weaker c.go_on.result (λ h. h (all_less (IsKnown c.args.schema.now) c.args.begun.now.items c.pop.new.self.items c.in-Some.part c.in-Some.ensures.items c.requires).0) c.go_on.ensures.known
