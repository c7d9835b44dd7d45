use Rattle.std.proofs.Common.{◌≡◌, ap, subst}
use Rattle.std.specs.Prelude.{IfSome}
use Rattle.language_types.specs.Types.{borrowed_shape}
use Rattle.variable_values.specs.Begun.{IsKnown}
use Rattle.variable_values.specs.Faults.{Faults}
use Rattle.variable_values.specs.Messages.{texts_of}
use Rattle.variable_values.specs.Places.{before_path}
use Rattle.variable_values.specs.Rows.{Others, lengths_of}
use Rattle.variable_values.proofs.BegunLaws.{all_more, begin_done, begin_part}
use Rattle.variable_values.proofs.RowLaws.{with_others}
use Rattle.variable_values.proofs.Told.{adds-both}
use Rattle.variable_values.proofs.faults.begin.Goals as goal

pub returns-in-None-clause-leads : goal.returns-in-None-clause-leads
returns-in-None-clause-leads g c =
    let schema = c.args.schema.now in
    let may = g.S.CheckedScalar.may_answer in
    let text = g.S.ScalarValue.text in
    let str_of = g.S.ScalarValue.str_of in
    let variable = c.args.variable.now in
    let value = c.args.value.now in
    let expected = borrowed_shape c.args.expected in
    let P = Faults schema may text str_of value expected in
    begin_done schema may text str_of variable c.args.begun.now.items c.args.steps.now.items c.take_back.new.steps.items P (before_path variable c.as_slice.result.now) _ (texts_of c.args.messages.now) (texts_of c.begun_by.new.messages)
    (λ end left.
    adds-both (λ fs. fs ≡ lengths_of value expected) (Others schema may text str_of value expected) P (before_path variable c.as_slice.result.now) _ _ _ (with_others schema may text str_of value expected) c.in_ok-add_lengths_of_one.ensures (c.in_ok-part.ensures.told end left))
    c.in-None.is (ap (before_path variable) c.as_slice.ensures.value) c.take_back.ensures

pub returns-in_ok-push-in-Some-clause-leads : goal.returns-in_ok-push-in-Some-clause-leads
returns-in_ok-push-in-Some-clause-leads g c =
    let schema = c.args.schema.now in
    let may = g.S.CheckedScalar.may_answer in
    let text = g.S.ScalarValue.text in
    let str_of = g.S.ScalarValue.str_of in
    let variable = c.args.variable.now in
    let value = c.args.value.now in
    let expected = borrowed_shape c.args.expected in
    let P = Faults schema may text str_of value expected in
    begin_part schema may text str_of variable c.args.begun.now.items c.push.new.self.items c.in-Some.part c.args.steps.now.items P (before_path variable c.as_slice.result.now) _ (texts_of c.args.messages.now) (texts_of c.begun_by.new.messages)
    (λ end left.
    adds-both (λ fs. fs ≡ lengths_of value expected) (Others schema may text str_of value expected) P (before_path variable c.as_slice.result.now) _ _ _ (with_others schema may text str_of value expected) c.in_ok-add_lengths_of_one.ensures (c.in_ok-part.ensures.told end left))
    c.in-Some.is (ap (before_path variable) c.as_slice.ensures.value) c.in_ok-push-in-Some.ensures.items

pub returns-in_ok-push-in-Some-clause-known : goal.returns-in_ok-push-in-Some-clause-known
returns-in_ok-push-in-Some-clause-known g c =
    all_more (IsKnown c.args.schema.now) c.args.begun.now.items c.push.new.self.items c.in-Some.part c.in_ok-push-in-Some.ensures.items (subst (λ o. IfSome o (IsKnown c.args.schema.now)) c.in-Some.is c.in_ok-part.ensures.known)
