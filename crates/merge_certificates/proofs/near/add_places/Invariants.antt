use Rattle.std.proofs.Common.{ℕ, take}
use Rattle.std.specs.List.{All, Contains}
use Rattle.merge_sets.specs.declared.node.Entry.{Entry}
use Rattle.merge_certificates.specs.Near.{listed_at}
use Rattle.merge_certificates.proofs.near.add_places.Given as goal

abbrev pub invariant-loop-name : goal.invariant-loop-name
invariant-loop-name l =
    ((a : Entry) → Contains l.fn.entries.items a → Contains l.entries.items a)
    × All (λ (n : ℕ). Contains l.entries.items (listed_at n l.k)) (take l.name-index l.list)
