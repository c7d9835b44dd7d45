use Rattle.std.proofs.Common.{None, subst, sym}
use Rattle.std.specs.Option.{option_copied}
use Rattle.lint_app.specs.Told.{IsReport}
use Rattle.lint_app.specs.contracts.rules.SourceScalarLintRules.TheImpl.{rules-value}
use Rattle.lint_app.proofs.program.report_of.Goals as goal

-- each file by itself
pub returns-then-not-task : goal.returns-then-not-task
returns-then-not-task c =
    let judge = c.args.judge.now in
    subst (λ together. IsReport rules-value.it together judge.root.now (option_copied judge.values) judge.sources.now c.in_ok-report.report) (sym c.if-not-task.true) c.in_ok-report.ensures

-- not all are read
pub returns-then-judge-files : goal.returns-then-judge-files
returns-then-judge-files c =
    let judge = c.args.judge.now in
    subst (λ together. IsReport rules-value.it together judge.root.now (option_copied judge.values) judge.sources.now c.empty.result) (sym c.if-not-task.false)
    (record { outcome = None; all = tt; issues = c.empty.ensures.issues; judged = c.empty.ensures.judged })

-- all as one document
pub returns : goal.returns
returns c =
    let judge = c.args.judge.now in
    subst (λ together. IsReport rules-value.it together judge.root.now (option_copied judge.values) judge.sources.now c.in_ok-report-2.report) (sym c.if-not-task.false) c.in_ok-report-2.ensures
