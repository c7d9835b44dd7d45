use Rattle.answers.specs.Answers.{FaultsAt}
use Rattle.variable_values.proofs.InTurns.{Done}
use Rattle.answers.proofs.values.faults_in.Given as goal

-- the faults of the definitions so far were found
abbrev pub invariant-loop-definition : goal.invariant-loop-definition
invariant-loop-definition l = Done (λ index. FaultsAt l.schema l.values) l.document l.definition-index l.faults.items
