use Rattle.std.proofs.Common.{subst}
use Rattle.std.proofs.lemmas.Result.{IfOk-weaker}
use Rattle.answers.specs.Answers.{Answers}
use Rattle.answers.specs.Answers.{of_text, of_no_text}
use Rattle.answers.specs.contracts.rules.SourceScalarAnswerRules.TheImpl.{rules-value}
use Rattle.answers.proofs.documents.answer.Goals as goal

-- the bytes are a text
pub returns-in-Ok : goal.returns-in-Ok
returns-in-Ok c =
    IfOk-weaker c.answer_of_text.result _ _
    (λ told h. of_text c.in-Ok.ensures.cases.1 (subst (λ text. Answers rules-value.it c.args.choices c.args.schema.now text told) c.in-Ok.ensures.cases.0 h))
    c.answer_of_text.ensures

-- they are none
pub not_utf8-requires : goal.not_utf8-requires
not_utf8-requires c = c.in-Err.ensures.cases.1

pub returns-in-Err : goal.returns-in-Err
returns-in-Err c = IfOk-weaker c.not_utf8.result _ _ (λ told h. of_no_text h.0 h.1) c.not_utf8.ensures
