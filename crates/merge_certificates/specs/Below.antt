-- What is known of what stands below some fields.
use Rattle.std.specs.Prelude.{ℕ, List, Bool, Option, Some, length, true, ◌≡◌, ◌⊎◌, slice_get}
use Rattle.std.specs.Option.{IfSome}
use Rattle.bit_matrix.specs.Set.{has}
use Rattle.bit_matrix.specs.declared.set.BitSet.{BitSet}
use Rattle.merge_certificates.specs.declared.below.Below.{Below}
use Rattle.merge_sets.specs.declared.node.Entry.{Entry}
use Rattle.merge_sets.specs.Clear.{IsClearBelow}
use Rattle.merge_certificates.specs.declared.failing.Numbered.{Numbered}
use Rattle.merge_certificates.specs.Failing.{AgreesBy, StandFor}
use Rattle.merge_certificates.specs.Near.{IsNear}
use Rattle.merge_certificates.specs.Touched.{AreApartAt}
use Rattle.merge_sets.specs.World.{World}

-- That what stands below the fields at two places merges: all does, or both are among those below which it does, or no
-- name that is set apart stands below both.
abbrev pub IsKnownBelow : Below → ℕ → ℕ → Type 0
IsKnownBelow known k l =
    (known.of_all ≡ true) ⊎ (((has known.places k ≡ true) × (has known.places l ≡ true)) ⊎ AreApartAt known.touched k l)

-- It is known of the fields at some two places.
abbrev pub KnowsSome : Below → Type 0
KnowsSome known = (k : ℕ) × (l : ℕ) × IsKnownBelow known k l

-- That the fields at two places merge: what stands below them does, and the kind of the second is one of those with which
-- the first doesn't fail.
abbrev pub IsPassedAt : Below → List (Option ℕ) → Option BitSet → ℕ → ℕ → Type 0
IsPassedAt known numbers agreeing k l = IsKnownBelow known k l × AgreesBy numbers agreeing l

-- What is known is true.
abbrev pub KnowsBelow : World → Bool → List Entry → Below → Type 0
KnowsBelow w e fields known =
    (k l : ℕ) (a b : Entry) → IsKnownBelow known k l → slice_get fields k ≡ Some a → slice_get fields l ≡ Some b → IsClearBelow w e a b

-- Each of the first so many places stands in the index, if there is one.
abbrev pub IsIndexed : Below → ℕ → Type 0
IsIndexed known count = IfSome known.near (λ near. IsNear known.touched count near.untold near.index.own.items)

-- What is known of each two of the fields is true: of what stands below them, and of their kinds.
pub record KnowsPairs (w : World) (e : Bool) (fields : List Entry) (known : Below) (numbered : Numbered) : Type 0 where
  pub below : KnowsBelow w e fields known
  pub indexed : IsIndexed known (length fields)
  pub kinds : StandFor w.judgement numbered.kinds.items fields numbered.numbers.items
