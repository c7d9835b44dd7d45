use Rattle.std.proofs.Common.{◌≡◌, ◌+◌}
use Rattle.language.specs.SelectionsInside.{selections_inside, all_inside}
use Rattle.language.proofs.tree.take_apart.Given as goal

-- what is in hand and what waits are as many as there were
abbrev pub invariant-loop-set : goal.invariant-loop-set
invariant-loop-set g l = selections_inside l.selection + all_inside l.waiting.items ≡ selections_inside l.initial.selection + all_inside l.initial.waiting.items

abbrev pub decreases-loop-set : goal.decreases-loop-set
decreases-loop-set g l = selections_inside l.selection
