-- Which fields fail with one, told by the numbers of their kinds.
use Rattle.std.specs.Prelude.{ℕ, List, Bool, Option, None, Some, true, false, ◌≡◌, get_or, slice_get}
use Rattle.std.specs.Option.{IfSome}
use Rattle.bit_matrix.specs.Set.{has}
use Rattle.bit_matrix.specs.declared.set.BitSet.{BitSet}
use Rattle.merge_sets.specs.Judgement.{Judgement}
use Rattle.merge_sets.specs.declared.node.Entry.{Entry}

-- The field is of the kind that has the number.
abbrev pub IsKindAt : (ℕ → ℕ → Type 0) → List ℕ → ℕ → ℕ → Type 0
IsKindAt kin kinds f i = (one : ℕ) × (slice_get kinds i ≡ Some one) × kin one f

-- So is each field of the number at its place, if one is told there.
abbrev pub AreNumbered : (ℕ → ℕ → Type 0) → List ℕ → List Entry → List (Option ℕ) → Type 0
AreNumbered kin kinds fields numbers =
    (k i : ℕ) (a : Entry) → slice_get fields k ≡ Some a → get_or numbers k None ≡ Some i → IsKindAt kin kinds a.field i

-- The kind of this field stands at a place.
abbrev pub IsOne : List ℕ → List (Option ℕ) → ℕ → ℕ → Type 0
IsOne kinds numbers k one = (i : ℕ) × (get_or numbers k None ≡ Some i) × (slice_get kinds i ≡ Some one)

-- Each number that is told has its kind, and fields of which it is told fail with each other as their kinds do.
pub record StandFor (j : Judgement) (kinds : List ℕ) (fields : List Entry) (numbers : List (Option ℕ)) : Type 0 where
  pub there : (k i : ℕ) (a : Entry) → slice_get fields k ≡ Some a → get_or numbers k None ≡ Some i → (one : ℕ) × (slice_get kinds i ≡ Some one)
  pub judged : (e : Bool) (k l one other : ℕ) (a b : Entry) → slice_get fields k ≡ Some a → slice_get fields l ≡ Some b
      → IsOne kinds numbers k one → IsOne kinds numbers l other → j.conflict e a.field b.field ≡ j.conflict e one other

-- A field fails with none of the kinds whose numbers are in the set.
abbrev pub AgreeKinds : Judgement → Bool → ℕ → List ℕ → BitSet → Type 0
AgreeKinds j e one kinds set = (i other : ℕ) → has set i ≡ true → slice_get kinds i ≡ Some other → j.conflict e one other ≡ false

-- No number is in the set.
abbrev pub IsEmpty : BitSet → Type 0
IsEmpty set = (i : ℕ) → has set i ≡ false

-- The number at a place is told, and in the set.
abbrev pub IsNumberIn : List (Option ℕ) → BitSet → ℕ → Type 0
IsNumberIn numbers set l = (i : ℕ) × (get_or numbers l None ≡ Some i) × (has set i ≡ true)

-- The same, if there is a set.
abbrev pub AgreesBy : List (Option ℕ) → Option BitSet → ℕ → Type 0
AgreesBy numbers agreeing l = IfSome agreeing (λ set. IsNumberIn numbers set l)

-- No place is so.
abbrev pub NoneAgrees : List (Option ℕ) → Option BitSet → Type 0
NoneAgrees numbers agreeing = (l : ℕ) → AgreesBy numbers agreeing l → ⊥

-- The number of some field is told.
abbrev pub TellsSome : List (Option ℕ) → Type 0
TellsSome numbers = (k : ℕ) × (i : ℕ) × (get_or numbers k None ≡ Some i)

-- The field at one place fails with none at such a place.
abbrev pub AgreeAt : Judgement → Bool → List Entry → List (Option ℕ) → ℕ → Option BitSet → Type 0
AgreeAt j e fields numbers k agreeing =
    (l : ℕ) (a b : Entry) → slice_get fields k ≡ Some a → slice_get fields l ≡ Some b → AgreesBy numbers agreeing l
    → j.conflict e a.field b.field ≡ false
