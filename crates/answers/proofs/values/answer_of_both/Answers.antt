use Rattle.std.proofs.lemmas.Result.{IfOk-weaker}
use Rattle.answers.proofs.Told.{errors_seen, has_items, no_items, tells_errors}
use Rattle.answers.specs.Answers.{of_errors, of_faults}
use Rattle.answers.specs.contracts.rules.SourceScalarAnswerRules.TheImpl.{rules-value}
use Rattle.answers.proofs.values.answer_of_both.Goals as goal

-- the document has errors
pub returns-then-not-is_empty : goal.returns-then-not-is_empty
returns-then-not-is_empty c =
    let schema = c.args.schema.now in
    let document = c.args.document.now in
    let errors = c.as_slice-errors.result.now in
    let are = errors_seen rules-value.it c.args.choices schema document errors _ c.as_slice-errors.ensures.value c.in_ok-found.ensures in
    IfOk-weaker c.answer_of_errors.result _ _
    (λ told h. of_errors (λ valid. has_items errors c.is_empty.result c.is_empty.ensures c.if-not-is_empty.true (are.valid.1 valid)) (tells_errors rules-value.it c.args.choices schema document c.args.text.now errors told are h))
    c.answer_of_errors.ensures

-- it has none
pub answer_of_values-requires : goal.answer_of_values-requires
answer_of_values-requires c =
    let errors = c.as_slice-errors.result.now in
    let are = errors_seen rules-value.it c.args.choices c.args.schema.now c.args.document.now errors _ c.as_slice-errors.ensures.value c.in_ok-found.ensures in
    are.valid.0 (no_items errors c.is_empty.result c.is_empty.ensures c.if-not-is_empty.false)

pub returns : goal.returns
returns c =
    let errors = c.as_slice-errors.result.now in
    let are = errors_seen rules-value.it c.args.choices c.args.schema.now c.args.document.now errors _ c.as_slice-errors.ensures.value c.in_ok-found.ensures in
    IfOk-weaker c.answer_of_values.result _ _ (λ told h. of_faults (are.valid.0 (no_items errors c.is_empty.result c.is_empty.ensures c.if-not-is_empty.false)) h) c.answer_of_values.ensures
