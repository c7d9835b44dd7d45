use Rattle.lint_sources.proofs.LineEnds.{Counts}
use Rattle.lint_sources.proofs.text_places.lines_ended.Given as goal

abbrev pub invariant-loop-byte : goal.invariant-loop-byte
invariant-loop-byte l = Counts l.text l.byte-index l.ended l.after_return
