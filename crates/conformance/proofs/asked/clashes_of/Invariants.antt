use denote.Shadow.{shadow}
use denote.Text.{Utf8}
use Rattle.conformance.proofs.asked.clashes_of.Given as goal

abbrev pub invariant-loop-error : goal.invariant-loop-error
invariant-loop-error l = shadow (Utf8 l.answer)
