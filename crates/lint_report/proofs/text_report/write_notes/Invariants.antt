use Rattle.std.proofs.Common.{string_bytes, take}
use Rattle.lint_report.specs.Texts.{Adds, AreNotes}
use Rattle.lint_report.proofs.text_report.write_notes.Given as goal

-- the notes so far were written
abbrev pub invariant-loop-place : goal.invariant-loop-place
invariant-loop-place l = Adds (AreNotes l.is_coloured l.sources (take l.place-index l.places)) (string_bytes l.initial.text) (string_bytes l.text)
