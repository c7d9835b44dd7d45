use Rattle.std.proofs.Common.{take}
use Rattle.lint_files.specs.Paths.{AddsEach}
use Rattle.lint_files.proofs.paths.add_each.Given as goal

-- the paths so far were added
abbrev pub invariant-loop-path : goal.invariant-loop-path
invariant-loop-path l = AddsEach (take l.path-index l.more) l.initial.paths.items l.paths.items
