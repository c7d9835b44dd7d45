use Rattle.std.proofs.Common.{take}
use Rattle.lint_schema.specs.Judged.{AddsLocated}
use Rattle.lint_schema.proofs.judging.add_located.Given as goal

-- the faults so far were told
abbrev pub invariant-loop-located : goal.invariant-loop-located
invariant-loop-located l = AddsLocated l.sources l.joined (take l.located-index l.found) l.initial.faults.items l.faults.items
