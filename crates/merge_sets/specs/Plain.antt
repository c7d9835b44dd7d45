-- Sets in which nothing can fail: each field in them, and below, has a response name under which all fields of the
-- graph agree.
use Rattle.std.specs.Prelude.{ℕ, List, Bool, Some, false, true, ◌≡◌, ◌⊎◌}
use Rattle.std.specs.List.{Contains}
use Rattle.bit_matrix.specs.Set.{has}
use Rattle.bit_matrix.specs.declared.set.BitSet.{BitSet}
use Rattle.merge_sets.specs.declared.node.Entry.{Entry}
use Rattle.merge_sets.specs.World.{World, own_of, spreads_of, set_of, conflict_of}

-- The field is an own field of some set.
abbrev pub Occurs : World → Entry → Type 0
Occurs w a = (s : ℕ) × Contains (own_of w s) a

-- No two fields of the response name fail with each other, wherever they stand.
abbrev pub IsPlainName : World → ℕ → Type 0
IsPlainName w n = (e : Bool) (a b : Entry) → Occurs w a → Occurs w b → a.response ≡ n → b.response ≡ n → conflict_of w e a b ≡ false

-- The names of its own fields are plain, and so are all names in the sets below them and in the fragments that it
-- spreads.
pub data IsPlain (w : World) : ℕ → Type 0 where
  plain : {s : ℕ} → ((a : Entry) → Contains (own_of w s) a → IsPlainName w a.response)
      → ((a : Entry) (t : ℕ) → Contains (own_of w s) a → a.below ≡ Some t → IsPlain w t)
      → ((f : ℕ) → Contains (spreads_of w s) f → IsPlain w (set_of w f)) → IsPlain w s

-- What stands below the field, if anything does, is plain.
abbrev pub IsPlainBelow : World → Entry → Type 0
IsPlainBelow w a = (t : ℕ) → a.below ≡ Some t → IsPlain w t

-- The name of the field is plain, and so are all names below it.
pub record IsPlainField (w : World) (a : Entry) : Type 0 where
  pub name : IsPlainName w a.response
  pub below : IsPlainBelow w a

-- One of two fragments is plain.
abbrev pub IsOnePlain : World → ℕ → ℕ → Type 0
IsOnePlain w f g = IsPlain w (set_of w f) ⊎ IsPlain w (set_of w g)

-- Each set with its bit is plain.
abbrev pub ArePlain : World → BitSet → Type 0
ArePlain w sets = (s : ℕ) → has sets s ≡ true → IsPlain w s

-- Each name without its bit is plain.
abbrev pub ArePlainBut : World → BitSet → Type 0
ArePlainBut w mixed = (n : ℕ) → has mixed n ≡ false → IsPlainName w n

-- Each field whose name has its bit is among these.
abbrev pub HasAllMarked : World → BitSet → List Entry → Type 0
HasAllMarked w marked fields = (a : Entry) → Occurs w a → has marked a.response ≡ true → Contains fields a
