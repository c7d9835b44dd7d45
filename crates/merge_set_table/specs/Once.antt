-- Numbers without repeats.
use Rattle.std.specs.Prelude.{◌≡◌, ◌==◌, ◌≤◌, ℕ, List, Bool, Some, length, slice_get}
use Rattle.std.specs.List.{list_any}

abbrev pub is_among : List ℕ → ℕ → Bool
is_among xs x = list_any (λ y. y == x) xs

-- The same numbers stand in both, and in the second no number stands at two places, so that it is no longer.
pub record IsEachOnce (numbers once : List ℕ) : Type 0 where
  pub same : (x : ℕ) → is_among once x ≡ is_among numbers x
  pub distinct : (i j x : ℕ) → slice_get once i ≡ Some x → slice_get once j ≡ Some x → i ≡ j
  pub few : length once ≤ length numbers
