use Rattle.std.proofs.Common.{arith, ◌≡◌, []}
use Rattle.std.proofs.lemmas.Grind.{common_steps}
use Rattle.language_types.specs.Types.{borrowed_shape}
use Rattle.variable_values.specs.Begun.{IsKnown}
use Rattle.variable_values.specs.Faults.{Faults}
use Rattle.variable_values.specs.Messages.{Adds, invalid_text, texts_of}
use Rattle.variable_values.proofs.BegunLaws.{all_none, leads_first, leads_last}
use Rattle.variable_values.proofs.faults.add_faults.Goals as goal

pub loop-init : goal.loop-init
loop-init g c =
    let schema = c.args.schema.now in
    let may = g.S.CheckedScalar.may_answer in
    let text = g.S.ScalarValue.text in
    let str_of = g.S.ScalarValue.str_of in (
      leads_first schema may text str_of c.args.variable.now c.new-begun.result.items c.begin.new.begun.items c.new-steps.result.items c.begin.new.steps.items (texts_of c.begin.new.messages) (texts_of c.args.messages.now)
          (Faults schema may text str_of c.args.value.now (borrowed_shape c.args.expected)) c.new-begun.ensures.items c.new-steps.ensures.items c.in_ok-begin.ensures.leads,
      c.in_ok-begin.ensures.known (all_none (IsKnown schema) c.new-begun.result.items c.new-begun.ensures.items),
    )

pub returns-then-is_empty : goal.returns-then-is_empty
returns-then-is_empty g c =
    let schema = c.args.schema.now in
    let may = g.S.CheckedScalar.may_answer in
    let text = g.S.ScalarValue.text in
    let str_of = g.S.ScalarValue.str_of in
    let nil : c.loop.begun.items ≡ [] = grind (arith, common_steps) in
    leads_last schema may text str_of c.args.variable.now c.loop.begun.items c.loop.steps.items (texts_of c.loop.messages) (texts_of c.args.messages.now)
    (Adds (Faults schema may text str_of c.args.value.now (borrowed_shape c.args.expected)) (invalid_text c.args.variable.now)) nil c.loop.invariant.0

pub loop-preserved : goal.loop-preserved
loop-preserved g c = (λ end left. c.loop.invariant.0 end (c.in_ok-go_on_last.ensures.leads end left), c.in_ok-go_on_last.ensures.known)
