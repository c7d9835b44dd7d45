use Rattle.std.proofs.Common.{OnOk, sym, subst}
use Rattle.variable_values.specs.Begun.{IsKnown, Leads, Left}
use Rattle.variable_values.specs.Messages.{texts_of}
use Rattle.variable_values.specs.Places.{before_path}
use Rattle.variable_values.proofs.faults.go_on.Goals as goal

pub begin_item-requires : goal.begin_item-requires
begin_item-requires g c = subst (IsKnown c.args.schema.now) c.in-Items.is c.requires

pub next_field-requires : goal.next_field-requires
next_field-requires g c = subst (IsKnown c.args.schema.now) c.in-Fields.is c.requires

pub returns-in-Items-clause-leads : goal.returns-in-Items-clause-leads
returns-in-Items-clause-leads g c =
    let schema = c.args.schema.now in
    let may = g.S.CheckedScalar.may_answer in
    let text = g.S.ScalarValue.text in
    let str_of = g.S.ScalarValue.str_of in
    subst (λ p. OnOk c.begin_item.result (Leads schema may text str_of c.args.variable.now c.begin_item.new.begun.items c.begin_item.new.steps.items (texts_of c.begin_item.new.messages) (Left schema may text str_of p (before_path c.args.variable.now c.args.steps.now.items)) c.args.begun.now.items c.args.steps.now.items (texts_of c.args.messages.now)))
    (sym c.in-Items.is) c.begin_item.ensures.leads

pub returns-in-Fields-clause-leads : goal.returns-in-Fields-clause-leads
returns-in-Fields-clause-leads g c =
    let schema = c.args.schema.now in
    let may = g.S.CheckedScalar.may_answer in
    let text = g.S.ScalarValue.text in
    let str_of = g.S.ScalarValue.str_of in
    subst (λ p. OnOk c.next_field.result (Leads schema may text str_of c.args.variable.now c.next_field.new.begun.items c.next_field.new.steps.items (texts_of c.next_field.new.messages) (Left schema may text str_of p (before_path c.args.variable.now c.args.steps.now.items)) c.args.begun.now.items c.args.steps.now.items (texts_of c.args.messages.now)))
    (sym c.in-Fields.is) c.next_field.ensures.leads
