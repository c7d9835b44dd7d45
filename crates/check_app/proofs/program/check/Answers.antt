use Rattle.std.proofs.lemmas.Result.{IfOk-weaker}
use Rattle.check_app.proofs.program.check.Goals as goal

-- the report is that on the document, by the schema of the sample
pub returns-in-Ok-clause-report : goal.returns-in-Ok-clause-report
returns-in-Ok-clause-report g c = IfOk-weaker c.report_of.result _ _ (λ report by. (c.in_ok-schema.schema, c.as_slice-in-Ok.result.now, by)) c.report_of.ensures.report
