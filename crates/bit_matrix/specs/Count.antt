-- How many numbers there are of a kind.
use Rattle.std.specs.Prelude.{ℕ, zero, suc, ◌+◌, Bool, cond}

-- how many of the numbers below n have p
abbrev pub count_below : (ℕ → Bool) → ℕ → ℕ
count_below p zero = 0
count_below p (suc n) = count_below p n + cond (p n) 1 0
