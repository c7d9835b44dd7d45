-- What the elements of a list give, one after the other.
use Rattle.std.specs.Prelude.{◌≡◌, ℕ, ◌+◌, List, [], ◌∷◌, ◌++◌}

-- each gives a part, told its index; the first of them has this one
abbrev pub InTurn : {X R : Type 0} → (ℕ → X → List R → Type 0) → ℕ → List X → List R → Type 0
InTurn gives i [] rs = rs ≡ []
InTurn {X} {R} gives i (x ∷ xs) rs =
    (first : List R) × (rest : List R) × gives i x first × InTurn gives (i + 1) xs rest × (rs ≡ first ++ rest)
