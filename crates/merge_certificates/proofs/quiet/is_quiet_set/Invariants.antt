use Rattle.std.proofs.Common.{Bool, ℕ, ◌≡◌, ◌≤◌, take}
use Rattle.std.specs.List.{All}
use Rattle.merge_sets.specs.declared.node.Entry.{Entry}
use Rattle.merge_sets.specs.Indexed.{firsts_of}
use Rattle.merge_sets.specs.Names.{named}
use Rattle.merge_certificates.specs.Quiet.{AllMergeBut, AllQuietBut, AreKept, Covers}
use Rattle.merge_sets.specs.World.{world}
use Rattle.merge_certificates.proofs.quiet.is_quiet_set.Given as goal

abbrev pub invariant-loop-first : goal.invariant-loop-first
invariant-loop-first g l =
    let w = world g.J.Judge.judgement l.graph in
    (l.first-items ≡ firsts_of l.set.own.items l.set.index)
    × AreKept l.fn.apart.names l.apart.names
    × (l.fn.apart.room ≡ 0 → l.apart ≡ l.fn.apart)
    × ((m : ℕ → Bool) → Covers m l.apart.names → AllQuietBut w m l.waiting.items → AllQuietBut w m l.fn.waiting.items
    × All (λ (f : Entry). AllMergeBut w m l.x (named f.response l.set.own.items)) (take l.first-index l.first-items))
    × (l.budget ≤ l.fn.budget)
