use Rattle.std.proofs.Common.{take}
use Rattle.merge_sets.specs.Sound.{Gains}
use Rattle.merge_sets.proofs.opening.open_all.Given as goal

abbrev pub invariant-loop-f : goal.invariant-loop-f
invariant-loop-f l = Gains (take l.f-index l.fragments) l.fragments l.fn.opening l.opening
