-- What fields that were looked through say of their response names.
use Rattle.std.specs.Prelude.{ℕ, List, Some, true, ◌≡◌, ◌⊎◌, slice_get}
use Rattle.std.specs.List.{Contains}
use Rattle.bit_matrix.specs.Set.{has}
use Rattle.merge_sets.specs.declared.node.Entry.{Entry}
use Rattle.merge_sets.specs.declared.plain_names.Seen.{Seen}

-- The name has a first field.
abbrev pub IsFirst : Seen → ℕ → ℕ → Type 0
IsFirst seen n one = slice_get seen.firsts.items n ≡ Some (Some one)

module _ (alike : ℕ → ℕ → Type 0) where
  -- The name of the field is marked, or the field is plainly like the first one of its name.
  abbrev pub IsNoted : Seen → Entry → Type 0
  IsNoted seen a = (has seen.mixed a.response ≡ true) ⊎ ((one : ℕ) × IsFirst seen a.response one × alike one a.field)

  -- Some fields were looked through, after others.
  pub record Notes (fields : List Entry) (old new : Seen) : Type 0 where
    pub noted : (a : Entry) → Contains fields a → IsNoted new a
    pub kept : (a : Entry) → IsNoted old a → IsNoted new a
