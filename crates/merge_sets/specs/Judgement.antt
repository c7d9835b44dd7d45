-- What is asked of two fields, which are numbers here.
use Rattle.std.specs.Prelude.{ℕ, List, Bool, true, false, ◌≡◌}
use Rattle.std.specs.List.{All}
use Rattle.merge_sets.specs.declared.node.Entry.{Entry}

pub record Judgement : Type 0 where
  -- no object is asked for both: so it is already where they stand, or by their own parents
  pub exclusive : Bool → ℕ → ℕ → Bool
  -- the two fail of themselves, by names, arguments or types; the flag says that they stand where they are exclusive
  pub conflict : Bool → ℕ → ℕ → Bool

-- What a search relies on to miss nothing.
pub record Lawful (j : Judgement) : Type 0 where
  pub exclusive_kept : (a b : ℕ) → j.exclusive false a b ≡ true → j.exclusive true a b ≡ true
  pub exclusive_flip : (e : Bool) (a b : ℕ) → j.exclusive e b a ≡ j.exclusive e a b
  pub conflict_kept : (a b : ℕ) → j.conflict true a b ≡ true → j.conflict false a b ≡ true
  pub conflict_flip : (e : Bool) (a b : ℕ) → j.conflict e b a ≡ j.conflict e a b
  pub conflict_self : (e : Bool) (a : ℕ) → j.conflict e a a ≡ false

-- No field of the one list fails with one of the other.
abbrev pub NoneConflict : Judgement → Bool → List Entry → List Entry → Type 0
NoneConflict j e left right = All (λ a. All (λ b. j.conflict e a.field b.field ≡ false) right) left

-- Below fields that are exclusive all are.
abbrev pub ExclusiveStays : Judgement → Type 0
ExclusiveStays j = (a b : ℕ) → j.exclusive true a b ≡ true

-- Two fields that are like a third fail with each other under no flag.
abbrev pub AlikeAgree : Judgement → (ℕ → ℕ → Type 0) → Type 0
AlikeAgree j alike = (e : Bool) (one a b : ℕ) → alike one a → alike one b → j.conflict e a b ≡ false

-- Fields fail with each other as those do whose kinds they are of.
abbrev pub KinAgree : Judgement → (ℕ → ℕ → Type 0) → Type 0
KinAgree j kin = (e : Bool) (one other a b : ℕ) → kin one a → kin other b → j.conflict e a b ≡ j.conflict e one other

-- Two fields in object types of different numbers are exclusive; 0 is no such number.
abbrev pub ObjectsApart : Judgement → (ℕ → ℕ) → Type 0
ObjectsApart j object =
    (a b : ℕ) → (object a ≡ 0 → ⊥) → (object b ≡ 0 → ⊥) → (object a ≡ object b → ⊥) → j.exclusive false a b ≡ true
