-- Sets whose fields merge, however the sets stand beside each other.
use Rattle.std.specs.Prelude.{ℕ, List, Bool, Some, true, false, ◌≡◌}
use Rattle.std.specs.List.{All, Contains}
use Rattle.bit_matrix.specs.Set.{has}
use Rattle.bit_matrix.specs.declared.set.BitSet.{BitSet}
use Rattle.merge_sets.specs.declared.node.Entry.{Entry}
use Rattle.merge_certificates.specs.declared.unions.Union.{Union}
use Rattle.merge_sets.specs.Merging.{Stands, Below, Merges}
use Rattle.merge_sets.specs.World.{World, spreads_of, set_of, conflict_of, exclusive_of, Same}

-- A flag at or above another: above `false` stand both.
abbrev pub IsFrom : Bool → Bool → Type 0
IsFrom x e = x ≡ true → e ≡ true

-- The two fields merge, those of some response names aside: they may fail, at any depth.
pub data MergesBut (w : World) (apart : ℕ → Bool) : Bool → Entry → Entry → Type 0 where
  merges_but : {e : Bool} {a b : Entry} → (apart a.response ≡ false → conflict_of w e a b ≡ false)
      → ((c d : Entry) → Below w a b c d → MergesBut w apart (exclusive_of w e a b) c d) → MergesBut w apart e a b

-- So do each two of the fields that have one response name, under each flag from x on.
abbrev pub AllMergeBut : World → (ℕ → Bool) → Bool → List Entry → Type 0
AllMergeBut w apart x fields = (e : Bool) (a b : Entry) → IsFrom x e → Contains fields a → Contains fields b → Same a b → MergesBut w apart e a b

-- So do each two that stand in some sets, what these spread written out.
abbrev pub AreQuietBut : World → (ℕ → Bool) → Bool → List ℕ → Type 0
AreQuietBut w apart x sets =
    (e : Bool) (s t : ℕ) (a b : Entry) → IsFrom x e → Contains sets s → Contains sets t
    → Stands w s a → Stands w t b → Same a b → MergesBut w apart e a b

-- So do each two that stand in the sets of one union, under each flag from that of the union on.
abbrev pub AllQuietBut : World → (ℕ → Bool) → List Union → Type 0
AllQuietBut w apart unions = All (λ u. AreQuietBut w apart u.flag u.sets.items) unions

-- Each two of one response name that stand in some sets merge.
abbrev pub AreQuiet : World → Bool → List ℕ → Type 0
AreQuiet w x sets =
    (e : Bool) (s t : ℕ) (a b : Entry) → IsFrom x e → Contains sets s → Contains sets t
    → Stands w s a → Stands w t b → Same a b → Merges w e a b

-- So do each two that stand in the sets of one union.
abbrev pub AllQuiet : World → List Union → Type 0
AllQuiet w unions = All (λ u. AreQuiet w u.flag u.sets.items) unions

-- The set below a field is one of some.
abbrev pub HoldsBelow : List ℕ → Entry → Type 0
HoldsBelow sets a = (t : ℕ) → a.below ≡ Some t → Contains sets t

-- Those of the one set are in the other.
abbrev pub AreKept : BitSet → BitSet → Type 0
AreKept old new = (n : ℕ) → has old n ≡ true → has new n ≡ true

-- All of the set are among the names.
abbrev pub Covers : (ℕ → Bool) → BitSet → Type 0
Covers apart names = (n : ℕ) → has names n ≡ true → apart n ≡ true

-- Among the sets are some, and those of all fragments that they reach.
pub record AreWrittenOut (w : World) (some sets : List ℕ) : Type 0 where
  pub first : All (λ s. Contains sets s) some
  pub closed : (s f : ℕ) → Contains sets s → Contains (spreads_of w s) f → Contains sets (set_of w f)

-- All that stands in the sets is among the fields.
abbrev pub HoldAll : World → List ℕ → List Entry → Type 0
HoldAll w sets fields = (s : ℕ) (a : Entry) → Contains sets s → Stands w s a → Contains fields a

-- The set below each of the fields is among the sets.
abbrev pub HoldBelow : List ℕ → List Entry → Type 0
HoldBelow sets fields = All (HoldsBelow sets) fields
