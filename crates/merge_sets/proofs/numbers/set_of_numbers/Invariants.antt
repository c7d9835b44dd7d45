use Rattle.std.proofs.Common.{◌≡◌, ℕ, true, take}
use Rattle.std.specs.List.{All, Contains}
use Rattle.bit_matrix.specs.Set.{has}
use Rattle.merge_sets.proofs.numbers.set_of_numbers.Given as goal

abbrev pub invariant-loop-number : goal.invariant-loop-number
invariant-loop-number l = All (λ g. has l.set g ≡ true) (take l.number-index l.list) × ((g : ℕ) → has l.set g ≡ true → Contains l.list g)
