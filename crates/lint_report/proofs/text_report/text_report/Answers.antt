use Rattle.std.proofs.Common.{[], arith, refl}
use Rattle.lint_report.specs.Texts.{IsIssueText}
use Rattle.lint_report.proofs.Lines.{report_has_lines}
use Rattle.lint_report.proofs.Texts.{report_told, texts_more}
use Rattle.lint_report.proofs.text_report.text_report.Goals as goal

-- the next error was written
pub loop-issue-preserved : goal.loop-issue-preserved
loop-issue-preserved c = texts_more (IsIssueText c.args.is_coloured c.args.sources.now) c.args.issues.now c.loop-issue.issue-index c.issue-item.result c.issue-item.result [] _ _ (omega arith) c.issue-item.is c.loop-issue.invariant c.in_ok-write_issue.ensures

-- each error was written, and then the line of counts
pub returns-clause-told : goal.returns-clause-told
returns-clause-told c = report_told c.args.is_coloured c.args.sources.now c.args.issues.now c.loop-issue.issue-index _ _ c.args.judged c.args.unjudged _ _ (omega arith)
    c.loop-issue.invariant refl c.in_ok-files.ensures c.in_ok-write_last_line.ensures

-- so it has so many lines
pub returns-clause-lines : goal.returns-clause-lines
returns-clause-lines c =
    report_has_lines c.args.is_coloured c.args.sources.now c.args.issues.now c.args.judged c.args.unjudged _
    (report_told c.args.is_coloured c.args.sources.now c.args.issues.now c.loop-issue.issue-index _ _ c.args.judged c.args.unjudged _ _ (omega arith)
    c.loop-issue.invariant refl c.in_ok-files.ensures c.in_ok-write_last_line.ensures)
