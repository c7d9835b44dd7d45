use Rattle.std.proofs.Common.{◌≤◌}
use Rattle.std.specs.Option.{option_copied}
use Rattle.lint_app.proofs.Telling.{EachSoFar}
use Rattle.lint_app.specs.contracts.rules.SourceScalarLintRules.TheImpl.{rules-value}
use Rattle.lint_app.proofs.documents.Judge.each.Given as goal

-- the files so far were judged
abbrev pub invariant-loop-file : goal.invariant-loop-file
invariant-loop-file l = record {
  told : EachSoFar rules-value.it l.self.root.now (option_copied l.self.values) l.sources l.file l.issues.items l.judged;
  few : l.judged ≤ l.file;
}
