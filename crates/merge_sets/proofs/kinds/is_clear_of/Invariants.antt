use Rattle.std.proofs.Common.{◌≡◌, false, take}
use Rattle.std.specs.List.{All}
use Rattle.merge_sets.proofs.kinds.is_clear_of.Given as goal

abbrev pub invariant-loop-other : goal.invariant-loop-other
invariant-loop-other g l = All (λ o. (g.J.Judge.judgement l.graph.judge).conflict l.e l.field o ≡ false) (take l.other-index l.others)
