use Rattle.std.proofs.Common.{take}
use Rattle.std.specs.List.{All}
use Rattle.merge_sets.specs.World.{world}
use Rattle.merge_sets.specs.Plain.{IsPlainBelow}
use Rattle.merge_sets.proofs.plain.are_plain_below.Given as goal

abbrev pub invariant-loop-field : goal.invariant-loop-field
invariant-loop-field g l = All (IsPlainBelow (world g.J.Judge.judgement l.graph)) (take l.field-index l.fields)
