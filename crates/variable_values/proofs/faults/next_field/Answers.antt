use Rattle.std.proofs.Common.{◌≤◌, length, arith, subst}
use Rattle.variable_values.specs.declared.begun.Begun.TheVariants as b
use Rattle.variable_values.specs.Begun.{EndsObject, Left}
use Rattle.variable_values.specs.Messages.{texts_of}
use Rattle.variable_values.specs.Places.{before_path}
use Rattle.variable_values.proofs.BegunLaws.{fields_end, leads_done}
use Rattle.variable_values.proofs.faults.next_field.Goals as goal

pub returns-in_ok-end_object-clause-leads : goal.returns-in_ok-end_object-clause-leads
returns-in_ok-end_object-clause-leads g c =
    let schema = c.args.schema.now in
    let may = g.S.CheckedScalar.may_answer in
    let text = g.S.ScalarValue.text in
    let str_of = g.S.ScalarValue.str_of in
    let variable = c.args.variable.now in
    let steps = c.args.steps.now.items in
    let here = before_path variable steps in
    let old = texts_of c.args.messages.now in
    let new = texts_of c.end_object.new.messages in
    let of = c.args.of in
    let ok = of.object.now.input_fields.ok.0 in
    let none : length of.object.now.input_fields.items ≤ c.args.next = let len = c.len.ensures in let less = c.if-next-len.false in omega (arith, ok, len, less) in
    leads_done schema may text str_of variable c.args.begun.now.items steps c.take_back.new.steps.items new old (Left schema may text str_of (b.Fields of c.args.next) here) c.take_back.ensures
    (fields_end schema may text str_of of c.args.next here old new none
    (subst (λ ss. EndsObject may text str_of of (before_path variable ss) old new) c.as_slice.ensures.value c.in_ok-end_object.ensures))
