-- What one of each kind says of all.
use Rattle.std.proofs.Common.{◌≡◌, ◌<◌, ℕ, List, Some, Bool, true, false, inl, inr, length, get_or, slice_get, ap, refl, sym, subst, ◌∙◌}
use Rattle.std.specs.Bool.{OnTrue}
use Rattle.std.specs.List.{All}
use Rattle.std.proofs.lemmas.List.Elements.{All-contains, All-weaker}
use Rattle.merge_sets.specs.declared.node.Entry.{Entry}
use Rattle.std.proofs.lemmas.Bool.{cases_eq}
use Rattle.std.proofs.lemmas.Option.{get_or_from_slice_get, slice_get-get_or}
use Rattle.bit_matrix.specs.Set.{has}
use Rattle.bit_matrix.specs.declared.set.BitSet.{BitSet}
use Rattle.merge_sets.specs.Judgement.{Judgement, KinAgree, NoneConflict}
use Rattle.merge_sets.proofs.OneName.{no_entry}
use Rattle.merge_sets.specs.Kinds.{AreAgreeingRows, IsOfKind, IsClearKind, NeverFailsWith}

-- a field of a clear kind fails with no field whose kind is among the others
pub clear_with : (j : Judgement) (kin : ℕ → ℕ → Type 0) → KinAgree j kin → (e : Bool) (others : List ℕ) (right : List Entry)
    → All (λ (b : Entry). IsOfKind kin others b.field) right → (a : Entry) → IsClearKind j kin e others a.field → NeverFailsWith j e a right
clear_with j kin agree e others right known a clear =
    All-weaker (λ (b : Entry). IsOfKind kin others b.field) (λ (b : Entry). j.conflict e a.field b.field ≡ false)
    (λ b of. agree e clear.0 of.0 a.field b.field clear.1 of.2 ∙ All-contains (λ o. j.conflict e clear.0 o ≡ false) others of.0 clear.2 of.1) right known

-- one place more is listed
pub rows_more : (P : Entry → Type 0) (left : List Entry) (n : ℕ) (old new : BitSet) → ((m : ℕ) → (m ≡ n → ⊥) → has new m ≡ has old m) → P (get_or left n no_entry)
    → ((k : ℕ) (a : Entry) → slice_get left k ≡ Some a → has old k ≡ true → P a)
    → (k : ℕ) (a : Entry) → slice_get left k ≡ Some a → has new k ≡ true → P a
rows_more P left n old new others here rows k a p h = elim (cases_eq k n) [
  | inl same ↦ subst P (ap (λ m. get_or left m no_entry) (sym same) ∙ get_or_from_slice_get left k a no_entry p) here
  | inr apart ↦ rows k a p (sym (others k apart) ∙ h)
]

-- where all places are listed no field fails with another
pub rows_all : (j : Judgement) (e : Bool) (xs ys : List Entry) (rows : BitSet) → AreAgreeingRows j e xs ys rows
    → (b : Bool) → (b ≡ true → (k : ℕ) → k < length xs → has rows k ≡ true) → OnTrue b (NoneConflict j e xs ys)
rows_all j e xs ys rows agree true all = λ k d l. agree k (get_or xs k d) (slice_get-get_or xs k d l) (all refl k l)
rows_all j e xs ys rows agree false all = tt
