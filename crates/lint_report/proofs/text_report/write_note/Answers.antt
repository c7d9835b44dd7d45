use Rattle.std.proofs.lemmas.Result.{on_ok_weaker}
use Rattle.lint_report.proofs.Texts.{note_added}
use Rattle.lint_report.proofs.text_report.write_note.Goals as goal

-- the place, the words and the line were written one after the other
pub returns : goal.returns
returns c = on_ok_weaker _ (note_added c.args.is_coloured c.args.sources.now c.args.place _ _ _ _ c.in_ok-write_place.ensures c.in_ok-push_str.ensures.bytes) c.write_line.ensures
