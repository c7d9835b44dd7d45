use Rattle.merge_sets.specs.World.{world}
use Rattle.merge_sets.specs.Plain.{ArePlain}
use Rattle.merge_sets.proofs.plain.plain_sets.Given as goal

abbrev pub invariant-loop-s : goal.invariant-loop-s
invariant-loop-s g l = ArePlain (world g.J.Judge.judgement l.graph) l.sets
