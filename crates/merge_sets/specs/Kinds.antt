-- Kinds of fields: no judgement tells two of one kind apart.
use Rattle.std.specs.Prelude.{ℕ, List, Bool, Some, true, false, ◌≡◌, ◌⊎◌, slice_get}
use Rattle.std.specs.List.{All, Contains}
use Rattle.bit_matrix.specs.Set.{has}
use Rattle.bit_matrix.specs.declared.set.BitSet.{BitSet}
use Rattle.merge_sets.specs.Judgement.{Judgement, NoneConflict}
use Rattle.merge_sets.specs.Names.{named}
use Rattle.merge_sets.specs.declared.node.Entry.{Entry}
use Rattle.merge_sets.specs.declared.kinds.Kind.{Kind}

-- The field is of the kind of one of some.
abbrev pub IsOfKind : (ℕ → ℕ → Type 0) → List ℕ → ℕ → Type 0
IsOfKind kin kinds f = (one : ℕ) × Contains kinds one × kin one f

-- The field fails with none of some others.
abbrev pub NeverFails : Judgement → Bool → ℕ → List ℕ → Type 0
NeverFails j e f others = All (λ o. j.conflict e f o ≡ false) others

-- The field is of the kind of one that fails with none of some others.
abbrev pub IsClearKind : Judgement → (ℕ → ℕ → Type 0) → Bool → List ℕ → ℕ → Type 0
IsClearKind j kin e others f = (one : ℕ) × kin one f × NeverFails j e one others

-- What is kept of a kind is true.
abbrev pub IsTrueOf : Judgement → Bool → List ℕ → Kind → Type 0
IsTrueOf j e others k = k.is_clear ≡ true → NeverFails j e k.one others

-- The field fails with none of these fields.
abbrev pub NeverFailsWith : Judgement → Bool → Entry → List Entry → Type 0
NeverFailsWith j e a others = All (λ b. j.conflict e a.field b.field ≡ false) others

-- Each field whose place is listed fails with none of the others.
abbrev pub AreAgreeingRows : Judgement → Bool → List Entry → List Entry → BitSet → Type 0
AreAgreeingRows j e left right rows = (k : ℕ) (a : Entry) → slice_get left k ≡ Some a → has rows k ≡ true → NeverFailsWith j e a right

-- The response name is marked, or no two of the fields that have it fail with each other, whatever the flag.
abbrev pub IsToldOf : Judgement → List Entry → BitSet → ℕ → Type 0
IsToldOf j fields marked n = (has marked n ≡ true) ⊎ ((e : Bool) → NoneConflict j e (named n fields) (named n fields))
