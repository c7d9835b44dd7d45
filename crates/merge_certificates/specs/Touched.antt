-- Which of some response names stand below fields.
use Rattle.std.specs.Prelude.{ℕ, List, Bool, Option, None, Some, Vec, true, false, ◌≡◌, ◌<◌, ◌≤◌, get_or, slice_get}
use Rattle.std.specs.List.{All, Contains}
use Rattle.std.specs.declared.alloc.Global.{Global}
use Rattle.bit_matrix.specs.Set.{has}
use Rattle.bit_matrix.specs.declared.set.BitSet.{BitSet}
use Rattle.merge_sets.specs.declared.node.Entry.{Entry}
use Rattle.merge_certificates.specs.declared.touched.Touched.{Touched}
use Rattle.merge_sets.specs.Clear.{IsClearBelow}
use Rattle.merge_sets.specs.Merging.{Stands}
use Rattle.merge_sets.specs.World.{World}

-- The field stands in a set or below a field that does, at any depth; what is spread is written out.
pub data StandsIn (w : World) : ℕ → Entry → Type 0 where
  here : {s : ℕ} {a : Entry} → Stands w s a → StandsIn w s a
  under : {s t : ℕ} {a c : Entry} → Stands w s a → a.below ≡ Some t → StandsIn w t c → StandsIn w s c

-- Each of some names that stands so in the set is listed.
abbrev pub ListsAll : World → BitSet → ℕ → List ℕ → Type 0
ListsAll w names s list = (c : Entry) → StandsIn w s c → has names c.response ≡ true → Contains list c.response

-- Each that stands below the field is.
abbrev pub ListsBelow : World → BitSet → Entry → List ℕ → Type 0
ListsBelow w names a list = (s : ℕ) → a.below ≡ Some s → ListsAll w names s list

-- No name is in both lists.
abbrev pub AreApart : List ℕ → List ℕ → Type 0
AreApart left right = (n : ℕ) → Contains left n → Contains right n → ⊥

-- The list at a place, if it is told.
abbrev pub told_at : Touched → ℕ → Option (Vec ℕ Global)
told_at touched k = get_or touched.lists.items k None

-- Some place is told.
abbrev pub TellsOfSome : Touched → Type 0
TellsOfSome touched = (k : ℕ) × (v : Vec ℕ Global) × (told_at touched k ≡ Some v)

-- Where a place is told, all names that stand below the field there are.
abbrev pub AreTouched : World → BitSet → List Entry → Touched → Type 0
AreTouched w names fields touched =
    (k : ℕ) (a : Entry) (v : Vec ℕ Global) → slice_get fields k ≡ Some a → told_at touched k ≡ Some v → ListsBelow w names a v.items

-- Both places are told, and no name is listed at both.
pub record AreApartAt (touched : Touched) (k l : ℕ) : Type 0 where
  pub left : Vec ℕ Global
  pub right : Vec ℕ Global
  pub told_left : told_at touched k ≡ Some left
  pub told_right : told_at touched l ≡ Some right
  pub apart : AreApart left.items right.items

-- What stands below the fields at two such places merges.
abbrev pub KnowsTouched : World → Bool → List Entry → Touched → Type 0
KnowsTouched w e fields touched =
    (k l : ℕ) (a b : Entry) → AreApartAt touched k l → slice_get fields k ≡ Some a → slice_get fields l ≡ Some b → IsClearBelow w e a b

-- Each place of a range is told, and each name that is listed there is in the set.
abbrev pub AreListedAt : Touched → ℕ → ℕ → BitSet → Type 0
AreListedAt touched from to names =
    (l : ℕ) → from ≤ l → l < to → (v : Vec ℕ Global) × (told_at touched l ≡ Some v) × All (λ n. has names n ≡ true) v.items

-- The place is told, and no name that is listed there is in the set.
abbrev pub IsFreeOf : Touched → ℕ → BitSet → Type 0
IsFreeOf touched k names = (v : Vec ℕ Global) × (told_at touched k ≡ Some v) × All (λ n. has names n ≡ false) v.items
