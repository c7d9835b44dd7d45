use Rattle.check_app.proofs.program.run.Goals as goal

-- the report on a document was written
pub returns-in-Ok-clause-told : goal.returns-in-Ok-clause-told
returns-in-Ok-clause-told g c = λ least. record {
  report = c.in-Ok.report;
  is_asked = c.in-Ok.ensures.report;
  written = c.write_report.ensures.written least;
  status_is = c.write_report.ensures.value least;
}
