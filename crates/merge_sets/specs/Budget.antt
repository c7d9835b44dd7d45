-- What is taken off a budget.
use Rattle.std.specs.Prelude.{ℕ, ◌+◌, ◌≡◌, ◌⊎◌}

-- So many questions were taken off, or nothing is told, since it had fewer.
abbrev pub Asks : ℕ → Type 0 → ℕ → ℕ → Type 0
Asks n untold old new = (new + n ≡ old) ⊎ (untold × (new ≡ old))
