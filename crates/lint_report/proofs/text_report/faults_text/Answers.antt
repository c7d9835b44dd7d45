use Rattle.std.proofs.Common.{[], arith, string_bytes, subst}
use Rattle.lint_report.specs.Texts.{Adds, IsFaultText, IsIssueText}
use Rattle.lint_report.proofs.Lines.{faults_have_lines}
use Rattle.lint_report.proofs.Texts.{all_texts, texts_more}
use Rattle.lint_report.proofs.text_report.faults_text.Goals as goal

-- the next fault was written
pub loop-fault-preserved : goal.loop-fault-preserved
loop-fault-preserved c = texts_more (IsFaultText c.args.is_coloured) c.args.faults.now c.loop-fault.fault-index c.fault-item.result c.fault-item.result [] _ _ (omega arith) c.fault-item.is c.loop-fault.invariant
    (subst (λ sources. Adds (IsIssueText c.args.is_coloured sources c.fault-item.result.issue) (string_bytes c.loop-fault.text) (string_bytes c.write_issue.new.text)) c.as_slice.ensures.value c.in_ok-write_issue.ensures)

-- all were
pub returns-clause-told : goal.returns-clause-told
returns-clause-told c = all_texts (IsFaultText c.args.is_coloured) c.args.faults.now c.loop-fault.fault-index _ (omega arith) c.loop-fault.invariant

-- so they have so many lines
pub returns-clause-lines : goal.returns-clause-lines
returns-clause-lines c =
    faults_have_lines c.args.is_coloured c.args.faults.now _
    (all_texts (IsFaultText c.args.is_coloured) c.args.faults.now c.loop-fault.fault-index _ (omega arith) c.loop-fault.invariant)
