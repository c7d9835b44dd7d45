use Rattle.std.proofs.Common.{◌≡◌}
use Rattle.lint_files.specs.Paths.{Paths, StandsFor}
use Rattle.lint_args.specs.Asks.{distinct, word_texts}
use Rattle.variable_values.proofs.InTurns.{Done}
use Rattle.lint_files.proofs.paths.paths_of.Given as goal

-- the paths are those that the arguments so far stand for
abbrev pub invariant-loop-argument : goal.invariant-loop-argument
invariant-loop-argument g l =
    (all : Paths) × Done (λ index argument. StandsFor (g.I.Inputs.host l.inputs) argument.now) l.arguments l.argument-index all × (word_texts l.paths.items ≡ distinct (word_texts all))
