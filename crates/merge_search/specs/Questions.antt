-- The questions that a search has asked, and what they come to.
use Rattle.std.specs.Prelude.{ℕ, zero, suc, ◌+◌, ◌*◌, Bool, cond, max, min}
use Rattle.merge_search.specs.declared.state.Search.{Search}
use Rattle.merge_search.specs.Log.{in_log}

-- Two fragments were compared under the flag, in either order.
abbrev pub pair_in : Search → Bool → ℕ → ℕ → Bool
pair_in M x f g = in_log M.pairs x (max f g) (min f g)

-- The own fields of a set were compared with a fragment's, below a field.
abbrev pub search_in : Search → Bool → ℕ → ℕ → Bool
search_in M x i g = in_log M.searched x i g

-- The sum of the first so many.
abbrev pub sum_below : (ℕ → ℕ) → ℕ → ℕ
sum_below f zero = 0
sum_below f (suc n) = sum_below f n + f n

-- What was asked of two numbers, one below each bound: the sum of their products.
abbrev pub worth : ℕ → ℕ → (ℕ → ℕ) → (ℕ → ℕ) → (ℕ → ℕ → Bool) → ℕ
worth m n f g asked = sum_below (λ i. sum_below (λ k. cond (asked i k) (f i * g k) 0) n) m
