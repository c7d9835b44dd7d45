use Rattle.std.proofs.lemmas.Result.{on_ok_weaker}
use Rattle.lint_report.proofs.Texts.{error_added}
use Rattle.lint_report.proofs.text_report.write_error.Goals as goal

-- the place, the message and the line were written one after the other
pub returns : goal.returns
returns c = on_ok_weaker _ (error_added c.args.is_coloured c.args.sources.now c.args.place c.args.message.now _ _ _ _ c.in_ok-write_place.ensures c.in_ok-write_message.ensures) c.write_line.ensures
