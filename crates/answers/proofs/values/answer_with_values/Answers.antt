use Rattle.std.proofs.Common.{subst}
use Rattle.std.proofs.lemmas.Result.{IfOk-weaker}
use Rattle.answers.specs.Answers.{AnswersValues, OfBytes}
use Rattle.answers.specs.Answers.{of_text, of_no_text}
use Rattle.answers.specs.contracts.rules.SourceScalarAnswerRules.TheImpl.{rules-value}
use Rattle.answers.proofs.values.answer_with_values.Goals as goal

-- the bytes of the document are a text
pub returns-in-Ok : goal.returns-in-Ok
returns-in-Ok c =
    let given = c.args.values.now in
    IfOk-weaker c.answer_of_query.result _ _
    (λ told h. of_text c.in-Ok.ensures.cases.1 (subst (λ text. OfBytes (AnswersValues rules-value.it c.args.choices c.args.schema.now text given) given told) c.in-Ok.ensures.cases.0 h))
    c.answer_of_query.ensures

-- they are none
pub not_utf8-requires : goal.not_utf8-requires
not_utf8-requires c = c.in-Err.ensures.cases.1

pub returns-in-Err : goal.returns-in-Err
returns-in-Err c = IfOk-weaker c.not_utf8.result _ _ (λ told h. of_no_text h.0 h.1) c.not_utf8.ensures
