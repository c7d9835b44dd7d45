use Rattle.std.proofs.Common.{take}
use Rattle.std.specs.List.{All}
use Rattle.merge_decision.proofs.settling.are_like.Given as goal

abbrev pub invariant-loop-field : goal.invariant-loop-field
invariant-loop-field g l = All (λ a. g.J.Judge.are_alike l.graph.judge l.one a.field) (take l.field-index l.fields)
