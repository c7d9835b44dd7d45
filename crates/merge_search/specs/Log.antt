-- Questions that were asked: of two numbers, under a flag.
use Rattle.std.specs.Prelude.{ℕ, Bool, true, false, ◌≡◌, ◌⊎◌, ◌&&◌, ◌||◌, if◌then◌else◌}
use Rattle.bit_matrix.specs.Rows.{marked}
use Rattle.merge_search.specs.declared.log.Log.{Log}

abbrev pub in_log : Log → Bool → ℕ → ℕ → Bool
in_log log e f g = marked (if e then log.flagged else log.plain) f g

-- A question without the flag is the stronger one.
abbrev pub covers_of : (Bool → ℕ → ℕ → Bool) → Bool → ℕ → ℕ → Bool
covers_of asked e f g = asked false f g || (e && asked true f g)

-- The question was asked, or a stronger one.
abbrev pub Covers : (Bool → ℕ → ℕ → Bool) → Bool → ℕ → ℕ → Type 0
Covers asked e f g = (x : Bool) × ((x ≡ e) ⊎ (x ≡ false)) × (asked x f g ≡ true)

-- One question was added, and no other.
pub record Notes (e : Bool) (f g : ℕ) (old new : Bool → ℕ → ℕ → Bool) : Type 0 where
  pub noted : new e f g ≡ true
  pub kept : (x : Bool) (i j : ℕ) → old x i j ≡ true → new x i j ≡ true
  pub only : (x : Bool) (i j : ℕ) → new x i j ≡ true → (old x i j ≡ true) ⊎ ((x ≡ e) × (i ≡ f) × (j ≡ g))

-- One question was added of two numbers in either order, and no other.
pub record NotesBoth (e : Bool) (f g : ℕ) (old new : Bool → ℕ → ℕ → Bool) : Type 0 where
  pub noted : new e f g ≡ true
  pub kept : (x : Bool) (i j : ℕ) → old x i j ≡ true → new x i j ≡ true
  pub only : (x : Bool) (i j : ℕ) → new x i j ≡ true
      → (old x i j ≡ true) ⊎ ((x ≡ e) × (((i ≡ f) × (j ≡ g)) ⊎ ((i ≡ g) × (j ≡ f))))
