-- Places at which a name is listed that is listed at another one, too.
use Rattle.std.specs.Prelude.{ℕ, List, None, Some, Vec, true, false, ◌≡◌, ◌<◌, ◌⊎◌}
use Rattle.std.specs.List.{All, Contains}
use Rattle.std.specs.declared.alloc.Global.{Global}
use Rattle.bit_matrix.specs.Set.{has}
use Rattle.bit_matrix.specs.declared.set.BitSet.{BitSet}
use Rattle.merge_sets.specs.declared.node.Entry.{Entry}
use Rattle.merge_certificates.specs.Touched.{AreApartAt, told_at}
use Rattle.merge_certificates.specs.declared.touched.Touched.{Touched}

-- A name and a place at which it is listed.
abbrev pub listed_at : ℕ → ℕ → Entry
listed_at n k = record { response = n; field = k; below = None }

-- Each of the first so many places is untold, or it stands in the index under each name that is listed there.
abbrev pub IsNear : Touched → ℕ → BitSet → List Entry → Type 0
IsNear touched count untold index =
    (l : ℕ) → l < count
    → (has untold l ≡ true) ⊎ ((v : Vec ℕ Global) × (told_at touched l ≡ Some v) × All (λ n. Contains index (listed_at n l)) v.items)

-- No name is listed at the place and at one that isn't in the row.
abbrev pub IsApartRow : Touched → ℕ → ℕ → BitSet → Type 0
IsApartRow touched k count row = (l : ℕ) → l < count → has row l ≡ false → AreApartAt touched k l
