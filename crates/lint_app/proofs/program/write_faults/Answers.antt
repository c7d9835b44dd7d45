use Rattle.std.proofs.Common.{string_bytes}
use Rattle.lint_app.proofs.Endings.{no_report, some_part}
use Rattle.lint_app.proofs.program.write_faults.Goals as goal

-- there was no memory for the report
pub returns-in_err-text : goal.returns-in_err-text
returns-in_err-text g c = no_report c.args.form c.args.faults.now _

-- the report was written, whole or in part
pub returns-in_err-write_text : goal.returns-in_err-write_text
returns-in_err-write_text g c = some_part c.args.form c.args.faults.now (string_bytes c.in_ok-text.text) _ _ _ c.in_ok-text.ensures c.as_str.ensures.value c.write_text.ensures.part

pub returns-in_err-text-2 : goal.returns-in_err-text-2
returns-in_err-text-2 g c = some_part c.args.form c.args.faults.now (string_bytes c.in_ok-text.text) _ _ _ c.in_ok-text.ensures c.as_str.ensures.value c.write_text.ensures.part

pub returns-in_err-write_text-2 : goal.returns-in_err-write_text-2
returns-in_err-write_text-2 g c = some_part c.args.form c.args.faults.now (string_bytes c.in_ok-text.text) _ _ _ c.in_ok-text.ensures c.as_str.ensures.value c.write_text.ensures.part

pub returns : goal.returns
returns g c = some_part c.args.form c.args.faults.now (string_bytes c.in_ok-text.text) _ _ _ c.in_ok-text.ensures c.as_str.ensures.value c.write_text.ensures.part
