use Rattle.std.proofs.Common.{take}
use Rattle.std.specs.List.{All}
use Rattle.merge_sets.specs.World.{world, set_of}
use Rattle.merge_sets.specs.Plain.{IsPlain}
use Rattle.merge_sets.proofs.plain.are_plain_fragments.Given as goal

abbrev pub invariant-loop-f : goal.invariant-loop-f
invariant-loop-f g l = All (λ f. IsPlain (world g.J.Judge.judgement l.graph) (set_of (world g.J.Judge.judgement l.graph) f)) (take l.f-index l.fragments)
