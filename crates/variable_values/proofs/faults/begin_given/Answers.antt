use Rattle.std.proofs.Common.{◌≡◌, List, OnOk, sym, subst, option_copied}
use Rattle.variable_values.specs.Begun.{Leads, OfGiven}
use Rattle.variable_values.specs.Faults.{Fault, Faults, left_out}
use Rattle.variable_values.specs.Messages.{Adds, texts_of}
use Rattle.variable_values.specs.Places.{before_path}
use Rattle.variable_values.proofs.BegunLaws.{leads_done}
use Rattle.variable_values.proofs.faults.begin_given.Goals as goal

pub returns-in-Some-clause-leads : goal.returns-in-Some-clause-leads
returns-in-Some-clause-leads g c =
    let schema = c.args.schema.now in
    let may = g.S.CheckedScalar.may_answer in
    let text = g.S.ScalarValue.text in
    let str_of = g.S.ScalarValue.str_of in
    let variable = c.args.variable.now in
    let steps = c.args.steps.now.items in
    let after = λ (P : List Fault → Type 0). OnOk c.begin.result (Leads schema may text str_of variable c.begin.new.begun.items c.begin.new.steps.items (texts_of c.begin.new.messages) (Adds P (before_path variable steps)) c.args.begun.now.items steps (texts_of c.args.messages.now)) in
    subst (λ o. after (OfGiven schema may text str_of (option_copied o) c.args.field.now)) (sym c.in-Some.is) (subst (λ t. after (Faults schema may text str_of c.in-Some.value.now t)) c.type_of_field-expected.ensures.made c.begin.ensures.leads)

pub returns-in_ok-add_absence-in-None-clause-leads : goal.returns-in_ok-add_absence-in-None-clause-leads
returns-in_ok-add_absence-in-None-clause-leads g c =
    let schema = c.args.schema.now in
    let may = g.S.CheckedScalar.may_answer in
    let text = g.S.ScalarValue.text in
    let str_of = g.S.ScalarValue.str_of in
    let variable = c.args.variable.now in
    let steps = c.args.steps.now.items in
    let a = c.args.field.now in
    let old = texts_of c.args.messages.now in
    let new = texts_of c.add_absence.new.messages in
    leads_done schema may text str_of variable c.args.begun.now.items steps c.take_back.new.steps.items new old (Adds (OfGiven schema may text str_of (option_copied c.args.given) a) (before_path variable steps)) c.take_back.ensures
    (subst (λ o. Adds (OfGiven schema may text str_of (option_copied o) a) (before_path variable steps) old new) (sym c.in-None.is)
    (subst (λ ss. Adds (λ fs. fs ≡ left_out schema a) (before_path variable ss) old new) c.as_slice.ensures.value c.in_ok-add_absence-in-None.ensures))
