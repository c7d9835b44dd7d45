use Rattle.std.proofs.Common.{◌≡◌, ◌+◌, ◌++◌, ap, ◌∙◌, option_copied, string_bytes}
use Rattle.std.proofs.lemmas.Result.{on_ok_weaker}
use Rattle.language_values.specs.Values.{last_value}
use Rattle.variable_values.specs.declared.begun.Begun.TheVariants as b
use Rattle.variable_values.specs.declared.place.PathStep.TheVariants as p
use Rattle.variable_values.specs.Begun.{IsKnown, Left, OfGiven}
use Rattle.variable_values.specs.Faults.{field}
use Rattle.variable_values.specs.Messages.{Adds, printed_step, texts_of}
use Rattle.variable_values.specs.Places.{before_path}
use Rattle.variable_values.proofs.BegunLaws.{all_more, before_step, field_next, leads_into}
use Rattle.variable_values.proofs.FieldInputs.{field_input}
use Rattle.variable_values.proofs.faults.begin_field.Goals as goal

pub begin_given-requires : goal.begin_given-requires
begin_given-requires g c =
    let known = c.requires.known in
    field_input c.args.schema.now known.0.0 c.args.of.object.now c.args.next c.index-field.result.now known.0.1 c.requires.left c.index-field.ensures

pub returns-clause-leads : goal.returns-clause-leads
returns-clause-leads g c =
    let schema = c.args.schema.now in
    let may = g.S.CheckedScalar.may_answer in
    let text = g.S.ScalarValue.text in
    let str_of = g.S.ScalarValue.str_of in
    let variable = c.args.variable.now in
    let of = c.args.of in
    let i = c.args.next in
    let a = c.index-field.result.now in
    let steps = c.args.steps.now.items in
    let mid_steps = c.push-2.new.self.items in
    let here = before_path variable steps in
    let after = before_path variable mid_steps in
    let old = texts_of c.args.messages.now in
    let name = c.as_str-name.ensures.value in
    let o = option_copied c.last_value_of-value.result in
    let last : o ≡ last_value (string_bytes a.name) of.entries.now = c.last_value_of-value.ensures ∙ ap (λ k. last_value k of.entries.now) name in
    let step : after ≡ here ++ printed_step (field (string_bytes a.name)) = before_step variable steps mid_steps (p.Field c.as_str-name.result) c.in_ok-push-2.ensures.items ∙ ap (λ k. here ++ printed_step (field k)) name in
    on_ok_weaker c.begin_given.result
    (leads_into schema may text str_of variable c.args.begun.now.items c.push.new.self.items c.begin_given.new.begun.items (b.Fields of (i + 1)) steps mid_steps c.begin_given.new.steps.items (p.Field c.as_str-name.result) (texts_of c.begin_given.new.messages) old
    (Adds (OfGiven schema may text str_of o a) after) (Left schema may text str_of (b.Fields of i) here) c.in_ok-push.ensures.items c.in_ok-push-2.ensures.items
    (λ mid end. field_next schema may text str_of of i a o here after old mid end c.requires.left c.index-field.ensures last step))
    c.begin_given.ensures.leads

pub returns-clause-known : goal.returns-clause-known
returns-clause-known g c =
    let schema = c.args.schema.now in
    on_ok_weaker c.begin_given.result (λ h all. h (all_more (IsKnown schema) c.args.begun.now.items c.push.new.self.items (b.Fields c.args.of (c.args.next + 1)) c.in_ok-push.ensures.items c.requires.known all)) c.begin_given.ensures.known
