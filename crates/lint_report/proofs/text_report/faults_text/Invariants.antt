use Rattle.std.proofs.Common.{[], string_bytes, take}
use Rattle.lint_report.specs.Texts.{Adds, AreFaultTexts}
use Rattle.lint_report.proofs.text_report.faults_text.Given as goal

-- the faults so far were written
abbrev pub invariant-loop-fault : goal.invariant-loop-fault
invariant-loop-fault l = Adds (AreFaultTexts l.is_coloured (take l.fault-index l.faults)) [] (string_bytes l.text)
