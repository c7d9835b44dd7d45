use Rattle.std.proofs.Common.{◌≡◌, take}
use Rattle.lint_sources.specs.Places.{start_at}
use Rattle.lint_sources.proofs.sources.Joined.start_before.Given as goal

-- the last one so far
abbrev pub invariant-loop-start : goal.invariant-loop-start
invariant-loop-start l = l.found ≡ start_at (take l.start-index l.start-items) l.index
