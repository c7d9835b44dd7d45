use Rattle.std.proofs.lemmas.Result.{IfOk-weaker}
use Rattle.schema_answers.proofs.Answered.{told_text}
use Rattle.schema_answers.proofs.schemas.read_schema.Goals as goal

-- the bytes are a text
pub returns-in-Ok : goal.returns-in-Ok
returns-in-Ok c = IfOk-weaker c.schema_of_text.result _ _ (λ told h. told_text c.args.texts.now c.args.dialect told c.in-Ok.ensures.cases.1 h) c.schema_of_text.ensures

-- they are none
pub not_utf8_report-requires : goal.not_utf8_report-requires
not_utf8_report-requires c = c.in-Err.ensures.cases.1
