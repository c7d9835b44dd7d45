use Rattle.lint_app.proofs.Telling.{FaultsSoFar}
use Rattle.lint_app.proofs.documents.Judge.add_faults_of_values.Given as goal

-- the values were judged for the definitions so far
abbrev pub invariant-loop-definition : goal.invariant-loop-definition
invariant-loop-definition l = FaultsSoFar l.self.root.now l.values l.joined l.file l.document l.definition-index l.initial.issues.items l.issues.items
