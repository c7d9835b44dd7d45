use Rattle.std.proofs.Common.{◌≡◌, ◌⊎◌, ℕ, take}
use Rattle.std.specs.List.{All, Contains}
use Rattle.merge_sets.specs.World.{world, set_of}
use Rattle.merge_certificates.proofs.quiet.add_sets.Given as goal

abbrev pub invariant-loop-f : goal.invariant-loop-f
invariant-loop-f g l =
    let w = world g.J.Judge.judgement l.graph in
    ((s : ℕ) → Contains l.fn.sets.items s → Contains l.sets.items s)
    × All (λ f. Contains l.sets.items (set_of w f)) (take l.f-index l.fragments)
    × ((s : ℕ) → Contains l.sets.items s → Contains l.fn.sets.items s ⊎ ((f : ℕ) × Contains l.fragments f × (s ≡ set_of w f)))
