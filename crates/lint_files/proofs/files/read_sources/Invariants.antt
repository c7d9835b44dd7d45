use Rattle.lint_files.specs.Read.{IsReadOf}
use Rattle.variable_values.proofs.InTurns.{Done}
use Rattle.lint_files.proofs.files.read_sources.Given as goal

-- the paths so far were read
abbrev pub invariant-loop-path : goal.invariant-loop-path
invariant-loop-path g l = Done (IsReadOf (g.I.Inputs.host l.inputs)) l.paths l.path-index l.sources.items
