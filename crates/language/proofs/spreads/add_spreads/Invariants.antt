use Rattle.std.proofs.Common.{◌≡◌, ◌++◌, map}
use Rattle.language.specs.Spreads.{spreads_of_all}
use Rattle.language.specs.SpreadsWaiting.{spreads_waiting, selections_waiting}
use Rattle.language.proofs.spreads.add_spreads.Given as goal

-- what was found, and what those have that wait
abbrev pub invariant-loop-rest : goal.invariant-loop-rest
invariant-loop-rest g l = map (λ s. s.now) l.found.items ++ spreads_waiting l.waiting.items ≡ map (λ s. s.now) l.fn.found.items ++ spreads_of_all l.fn.set

abbrev pub decreases-loop-rest : goal.decreases-loop-rest
decreases-loop-rest g l = selections_waiting l.waiting.items
