-- Fields between which there is nothing to find.
use Rattle.std.specs.Prelude.{ℕ, List, Bool, Some, None, true, ◌≡◌, ◌⊎◌, slice_get, sum_by, ◌≤◌}
use Rattle.std.specs.List.{All, Contains}
use Rattle.bit_matrix.specs.Set.{has}
use Rattle.bit_matrix.specs.declared.set.BitSet.{BitSet}
use Rattle.merge_sets.specs.declared.node.Entry.{Entry}
use Rattle.merge_sets.specs.Merging.{Merges}
use Rattle.merge_sets.specs.Merging as merging
use Rattle.merge_sets.specs.World.{World, exclusive_of}

-- Nothing stands below any of them.
abbrev pub AreLeaves : List Entry → Type 0
AreLeaves fields = All (λ a. a.below ≡ None) fields

-- The field merges with each of some others.
abbrev pub IsClear : World → Bool → Entry → List Entry → Type 0
IsClear w e a others = All (λ b. Merges w e a b) others

-- Each field of the one list merges with each of the other.
abbrev pub AreClear : World → Bool → List Entry → List Entry → Type 0
AreClear w e left right = All (λ a. IsClear w e a right) left

-- Each field whose place is listed merges with each of the others.
abbrev pub AreClearRows : World → Bool → List Entry → List Entry → BitSet → Type 0
AreClearRows w e left right rows = (k : ℕ) (a : Entry) → slice_get left k ≡ Some a → has rows k ≡ true → IsClear w e a right

-- What stands below the two fields merges.
abbrev pub IsClearBelow : World → Bool → Entry → Entry → Type 0
IsClearBelow w e a b = (c d : Entry) → merging.Below w a b c d → Merges w (exclusive_of w e a b) c d

-- What stands below a field of the one list merges with what stands below one of the other.
abbrev pub AreClearBelow : World → Bool → List Entry → List Entry → Type 0
AreClearBelow w e left right = (a b : Entry) → Contains left a → Contains right b → IsClearBelow w e a b

-- What stands below each field whose place is listed merges with what stands below each of the others.
abbrev pub AreClearRowsBelow : World → Bool → List Entry → List Entry → BitSet → Type 0
AreClearRowsBelow w e left right rows = (k : ℕ) (a : Entry) → slice_get left k ≡ Some a → has rows k ≡ true → All (λ b. IsClearBelow w e a b) right

-- What stands below each two of the fields at some places merges.
abbrev pub MergeBelow : World → Bool → List Entry → List ℕ → Type 0
MergeBelow w e fields places =
    (k l : ℕ) (a b : Entry) → Contains places k → Contains places l → slice_get fields k ≡ Some a → slice_get fields l ≡ Some b
    → IsClearBelow w e a b

-- Some things are no more than others, however they count.
abbrev pub IsSumWithin : {X : Type 0} → List X → List X → Type 0
IsSumWithin {X} some all = (f : X → ℕ) → sum_by f some ≤ sum_by f all

-- Some of the fields that one is compared with: all but those that merge with it.
pub record AreOthers (w : World) (e : Bool) (a : Entry) (rest others : List Entry) : Type 0 where
  pub all : All (λ b. Contains others b ⊎ Merges w e a b) rest
  pub only : All (λ b. Contains rest b) others
