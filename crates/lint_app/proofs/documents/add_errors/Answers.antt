use Rattle.std.proofs.Common.{subst}
use Rattle.std.proofs.lemmas.List.{take_all}
use Rattle.lint_app.specs.Told.{Adds, AreToldAs}
use Rattle.lint_app.proofs.Telling.{told_more}
use Rattle.lint_sources.specs.Issues.{IsIssueIn}
use Rattle.lint_app.proofs.documents.add_errors.Goals as goal

-- one more error
pub loop-error-preserved : goal.loop-error-preserved
loop-error-preserved c =
    let joined = c.args.joined.now in
    let error = c.error-item.result in
    let issue = c.in_ok-issue.issue in
    let placed = subst (λ places. IsIssueIn joined c.args.file c.message.result.now places issue) c.locations.ensures c.in_ok-issue.ensures in
    let told = subst (λ message. IsIssueIn joined c.args.file message error.locations issue) c.message.ensures placed in
    told_more joined c.args.file c.args.errors.now c.loop-error.error-index error c.args.issues.now.items c.loop-error.issues.items c.push.new.self.items issue c.loop-error-test.true c.error-item.is told c.in_ok-push.ensures.items c.loop-error.invariant

-- all errors
pub returns : goal.returns
returns c =
    subst (λ errors. Adds (AreToldAs c.args.joined.now c.args.file errors) c.args.issues.now.items c.loop-error.issues.items) (take_all c.loop-error.error-index c.args.errors.now c.loop-error-test.false) c.loop-error.invariant
