use Rattle.std.proofs.Common.{◌≡◌, ◌+◌, ◌-◌, ◌^◌, ◌≤◌, drop}
use Rattle.std.specs.Prelude.{min}
use Rattle.lint_args.specs.Asks.{inputs_among}
use Rattle.lint_args.proofs.task.inputs_among.Given as goal

abbrev pub invariant-loop-path : goal.invariant-loop-path
invariant-loop-path l =
    (l.found ≤ 2 ^ 64 - 1)
    × (min (l.found + inputs_among (drop l.path-index l.paths)) (2 ^ 64 - 1) ≡ min (l.before + inputs_among l.paths) (2 ^ 64 - 1))
