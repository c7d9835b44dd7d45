use Rattle.std.proofs.Common.{take}
use Rattle.std.specs.List.{All}
use Rattle.merge_sets.proofs.view.are_like.Given as goal

abbrev pub invariant-loop-other : goal.invariant-loop-other
invariant-loop-other g l = All (λ a. g.J.Judge.are_alike l.graph.judge l.one a.field) (take l.other-index l.others)
