use Rattle.std.proofs.Common.{◌≡◌, ◌⊎◌, ◌+◌, drop, ◌<◌, ◌≤◌, ℕ, Some, length, slice_get}
use Rattle.std.specs.Prelude.{sum_by}
use Rattle.std.specs.List.{All, Contains}
use Rattle.std.specs.Option.{IfSome}
use Rattle.merge_sets.specs.declared.node.Entry.{Entry}
use Rattle.merge_certificates.specs.Below.{IsPassedAt}
use Rattle.merge_certificates.specs.Failing.{NoneAgrees}
use Rattle.merge_certificates.specs.Near.{IsApartRow}
use Rattle.merge_certificates.proofs.below.others_by.Given as goal

abbrev pub invariant-loop-l : goal.invariant-loop-l
invariant-loop-l l =
    (IfSome l.near (IsApartRow l.below.touched l.k (length l.fields)) → (m : ℕ) (b : Entry) → l.from ≤ m → m < l.l → slice_get l.fields m ≡ Some b → Contains l.others.items b ⊎ IsPassedAt l.below l.numbers l.agreeing l.k m)
    × All (λ b. (m : ℕ) × (l.from ≤ m) × (slice_get l.fields m ≡ Some b)) l.others.items
    × ((f : Entry → ℕ) → sum_by f l.others.items + sum_by f (drop l.l l.fields) ≤ sum_by f (drop l.from l.fields))
    × (NoneAgrees l.numbers l.agreeing → l.l ≤ length l.others.items + l.from)
