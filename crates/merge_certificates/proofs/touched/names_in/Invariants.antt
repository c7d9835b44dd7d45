use Rattle.std.proofs.Common.{ℕ, ◌≡◌, ◌⊎◌, ◌≤◌, true}
use Rattle.std.specs.List.{Contains}
use Rattle.bit_matrix.specs.Set.{has}
use Rattle.merge_sets.specs.declared.node.Entry.{Entry}
use Rattle.merge_certificates.specs.Touched.{StandsIn}
use Rattle.merge_sets.specs.World.{world}
use Rattle.merge_certificates.proofs.touched.names_in.Given as goal

abbrev pub invariant-loop-rest : goal.invariant-loop-rest
invariant-loop-rest g l =
    let w = world g.J.Judge.judgement l.graph in
    ((s : ℕ) (a : Entry) → Contains l.fn.sets.items s → StandsIn w s a → has l.names a.response ≡ true
    → Contains l.found.items a.response ⊎ ((t : ℕ) × Contains l.waiting.items t × StandsIn w t a))
    × (l.rest ≤ l.fn.budget) × (l.budget ≡ l.fn.budget)

abbrev pub decreases-loop-rest : goal.decreases-loop-rest
decreases-loop-rest g l = l.rest
