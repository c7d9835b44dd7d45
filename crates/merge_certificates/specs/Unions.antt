-- Unions of the sets below fields that are compared with each other.
use Rattle.std.specs.Prelude.{ℕ, List, Bool, false, ◌≡◌}
use Rattle.std.specs.List.{Contains}
use Rattle.merge_sets.specs.declared.node.Entry.{Entry}
use Rattle.merge_certificates.specs.declared.unions.Union.{Union}
use Rattle.merge_sets.specs.Names.{named}
use Rattle.merge_certificates.specs.Quiet.{HoldBelow, HoldsBelow, IsFrom}
use Rattle.merge_sets.specs.World.{World, exclusive_of}

-- The unions of the one list are in the other.
abbrev pub UnionsKept : List Union → List Union → Type 0
UnionsKept old new = (u : Union) → Contains old u → Contains new u

-- A union of the flag has the sets below some fields, and some more.
pub record HasUnion (unions : List Union) (flag : Bool) (fields : List Entry) (more : List ℕ) : Type 0 where
  pub union : Union
  pub there : Contains unions union
  pub flagged : union.flag ≡ flag
  pub below : HoldBelow union.sets.items fields
  pub besides : (t : ℕ) → Contains more t → Contains union.sets.items t

-- There is one for each response name.
abbrev pub HaveUnions : List Union → List Entry → List ℕ → Type 0
HaveUnions unions own more = (a : Entry) → Contains own a → HasUnion unions false (named a.response own) more

-- A field with the number of the object type around it in place of its response name.
abbrev pub under_object : (ℕ → ℕ) → Entry → Entry
under_object object a = record { response = object a.field; field = a.field; below = a.below }

-- The sets below two fields are in one union, of this flag or a lower one.
pub record AreJoined (unions : List Union) (e : Bool) (a b : Entry) : Type 0 where
  pub union : Union
  pub there : Contains unions union
  pub from : IsFrom union.flag e
  pub left : HoldsBelow union.sets.items a
  pub right : HoldsBelow union.sets.items b

-- So are those below each two of some fields, under the flag under which what stands below the two is compared. The
-- fields themselves stand under x, or above.
abbrev pub AllJoined : World → Bool → List Entry → List Union → Type 0
AllJoined w x fields unions =
    (e : Bool) (a b : Entry) → IsFrom x e → Contains fields a → Contains fields b → AreJoined unions (exclusive_of w e a b) a b

-- So are those below each two that aren't exclusive.
abbrev pub AllJoinedFlat : World → List Entry → List Union → Type 0
AllJoinedFlat w fields unions =
    (a b : Entry) → Contains fields a → Contains fields b → exclusive_of w false a b ≡ false → AreJoined unions false a b
