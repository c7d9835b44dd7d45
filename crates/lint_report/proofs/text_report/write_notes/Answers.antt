use Rattle.std.proofs.Common.{arith, refl}
use Rattle.lint_report.specs.Texts.{IsNoteText}
use Rattle.lint_report.proofs.Texts.{texts_more}
use Rattle.lint_report.proofs.text_report.write_notes.Goals as goal

-- the next note was written
pub loop-place-preserved : goal.loop-place-preserved
loop-place-preserved c = texts_more (IsNoteText c.args.is_coloured c.args.sources.now) c.args.places.now c.loop-place.place-index _ _ _ _ _ (omega arith) refl c.loop-place.invariant c.in_ok-write_note.ensures
