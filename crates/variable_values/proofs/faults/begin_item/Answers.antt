use Rattle.std.proofs.Common.{◌≡◌, ◌≤◌, ◌+◌, ◌<◌, get_or, length, arith, ap}
use Rattle.std.proofs.lemmas.Result.{on_ok_weaker}
use Rattle.language_types.specs.Types.{borrowed_shape}
use Rattle.variable_values.specs.declared.begun.Begun.TheVariants as b
use Rattle.variable_values.specs.declared.place.PathStep.TheVariants as p
use Rattle.variable_values.specs.Begun.{IsKnown, Left}
use Rattle.variable_values.specs.Faults.{Faults}
use Rattle.variable_values.specs.Messages.{Adds, texts_of}
use Rattle.variable_values.specs.Places.{before_path}
use Rattle.variable_values.proofs.BegunLaws.{all_more, before_step, items_end, items_next, leads_done, leads_into}
use Rattle.variable_values.proofs.faults.begin_item.Goals as goal

pub returns-then-next-items-clause-leads : goal.returns-then-next-items-clause-leads
returns-then-next-items-clause-leads g c =
    let schema = c.args.schema.now in
    let may = g.S.CheckedScalar.may_answer in
    let text = g.S.ScalarValue.text in
    let str_of = g.S.ScalarValue.str_of in
    let variable = c.args.variable.now in
    let steps = c.args.steps.now.items in
    let here = before_path variable steps in
    let now = texts_of c.args.messages.now in
    let part = b.Items c.args.inner c.args.items c.args.next in
    let none : length c.args.items.now ≤ c.args.next = c.if-next-items.true in
    leads_done schema may text str_of variable c.args.begun.now.items steps c.take_back.new.steps.items now now (Left schema may text str_of part here) c.take_back.ensures
    (items_end schema may text str_of c.args.inner c.args.items c.args.next here now none)

pub returns-clause-leads : goal.returns-clause-leads
returns-clause-leads g c =
    let schema = c.args.schema.now in
    let may = g.S.CheckedScalar.may_answer in
    let text = g.S.ScalarValue.text in
    let str_of = g.S.ScalarValue.str_of in
    let variable = c.args.variable.now in
    let i = c.args.next in
    let steps = c.args.steps.now.items in
    let mid_steps = c.push-2.new.self.items in
    let here = before_path variable steps in
    let after = before_path variable mid_steps in
    let old = texts_of c.args.messages.now in
    let item = get_or c.args.items.now i c.index-items-next.result in
    let same : item ≡ get_or c.args.items.now i item = ap (λ z. get_or c.args.items.now i z) c.index-items-next.is in
    let left : i < length c.args.items.now = let more = c.if-next-items.false in omega (arith, more) in
    on_ok_weaker c.begin.result
    (leads_into schema may text str_of variable c.args.begun.now.items c.push.new.self.items c.begin.new.begun.items (b.Items c.args.inner c.args.items (i + 1)) steps mid_steps c.begin.new.steps.items (p.Element i) (texts_of c.begin.new.messages) old
    (Adds (Faults schema may text str_of item.item (borrowed_shape c.args.inner)) after) (Left schema may text str_of (b.Items c.args.inner c.args.items i) here) c.in_ok-push.ensures.items c.in_ok-push-2.ensures.items
    (λ mid end. items_next schema may text str_of c.args.inner c.args.items i item here after old mid end left same (before_step variable steps mid_steps (p.Element i) c.in_ok-push-2.ensures.items)))
    c.begin.ensures.leads

pub returns-clause-known : goal.returns-clause-known
returns-clause-known g c =
    let schema = c.args.schema.now in
    on_ok_weaker c.begin.result (λ h all. h (all_more (IsKnown schema) c.args.begun.now.items c.push.new.self.items (b.Items c.args.inner c.args.items (c.args.next + 1)) c.in_ok-push.ensures.items c.requires all)) c.begin.ensures.known
