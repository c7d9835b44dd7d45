use Rattle.std.proofs.Common.{◌≡◌, take}
use Rattle.clap.specs.Walk.{texts}
use Rattle.lint_args.specs.Asks.{distinct}
use Rattle.lint_args.proofs.task.distinct.Given as goal

-- each of the paths so far once
abbrev pub invariant-loop-path : goal.invariant-loop-path
invariant-loop-path l = texts l.files.items ≡ distinct (texts (take l.path-index l.paths))
