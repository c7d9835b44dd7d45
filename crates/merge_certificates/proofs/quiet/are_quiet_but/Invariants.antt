use Rattle.std.proofs.Common.{Bool, ℕ, ◌≡◌, ◌≤◌}
use Rattle.merge_certificates.specs.Quiet.{AllQuietBut, Covers}
use Rattle.merge_sets.specs.World.{world}
use Rattle.merge_certificates.proofs.quiet.are_quiet_but.Given as goal

abbrev pub invariant-loop-rest : goal.invariant-loop-rest
invariant-loop-rest g l =
    let w = world g.J.Judge.judgement l.graph in
    (l.fn.apart.room ≡ 0 → l.apart ≡ l.fn.apart)
    × ((m : ℕ → Bool) → Covers m l.apart.names → AllQuietBut w m l.waiting.items → AllQuietBut w m l.fn.unions.items)
    × (l.rest ≤ l.fn.budget) × (l.budget ≡ l.fn.budget)

abbrev pub decreases-loop-rest : goal.decreases-loop-rest
decreases-loop-rest g l = l.rest
