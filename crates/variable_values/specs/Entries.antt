-- The places of the last entries of keys.
use Rattle.std.specs.Prelude.{◌≡◌, ℕ, ◌<◌, List, length, slice_index_or, Option, Some, None}
use Rattle.std.specs.BTreeMap.{BTreeMap, get_by}
use Rattle.std.specs.Cmp.Lexicographic.{slice_cmp}
use Rattle.std.specs.Ordering.{nat_cmp}
use denote.Ref.{Bor}
use Rattle.language_values.specs.Values.{Entry, last_value}

-- what a map has under a key
abbrev pub place_in : BTreeMap (Bor (List ℕ)) ℕ → List ℕ → Option ℕ
place_in places key = get_by (λ k. slice_cmp nat_cmp key k.now) places

-- the value, if there is one, is that of the entry at the place
abbrev pub IsPlaceOf : {A : Type 0} → List (Entry A) → Option A → Option ℕ → Type 0
IsPlaceOf es value None = value ≡ None
IsPlaceOf {A} es value (Some i) = (i < length es) × ((d : Entry A) → value ≡ Some (slice_index_or es i d).1.item)

-- the map has the place of the last entry of each key, and nothing else
abbrev pub HasPlaces : {A : Type 0} → BTreeMap (Bor (List ℕ)) ℕ → List (Entry A) → Type 0
HasPlaces places es = (key : List ℕ) → IsPlaceOf es (last_value key es) (place_in places key)
