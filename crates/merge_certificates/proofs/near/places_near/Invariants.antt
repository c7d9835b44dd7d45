use Rattle.std.proofs.Common.{◌≡◌, ◌<◌, ℕ, true, take}
use Rattle.std.specs.List.{All, Contains}
use Rattle.bit_matrix.specs.Set.{has}
use Rattle.merge_certificates.specs.Near.{listed_at}
use Rattle.merge_certificates.proofs.near.places_near.Given as goal

abbrev pub invariant-loop-name : goal.invariant-loop-name
invariant-loop-name l =
    ((m : ℕ) → m < l.count → has l.near.untold m ≡ true → has l.rows m ≡ true)
    × All (λ (n : ℕ). (m : ℕ) → Contains l.near.index.own.items (listed_at n m) → has l.rows m ≡ true) (take l.name-index l.list)
