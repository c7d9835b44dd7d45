use Rattle.std.proofs.lemmas.Result.{IfOk-weaker}
use Rattle.answers.proofs.Told.{errors_seen, tells_errors}
use Rattle.answers.specs.contracts.rules.SourceScalarAnswerRules.TheImpl.{rules-value}
use Rattle.answers.proofs.documents.answer_of_document.Goals as goal

pub returns : goal.returns
returns c =
    let schema = c.args.schema.now in
    let document = c.args.document.now in
    let errors = c.as_slice.result.now in
    let are = errors_seen rules-value.it c.args.choices schema document errors _ c.as_slice.ensures.value c.in_ok-errors.ensures in
    IfOk-weaker c.answer_of_errors.result _ _ (λ told h. tells_errors rules-value.it c.args.choices schema document c.args.text.now errors told are h) c.answer_of_errors.ensures
