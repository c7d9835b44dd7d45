-- Indices into a list of names, in the order of the names and by slots.
use Rattle.std.specs.Prelude.{◌≡◌, ℕ, suc, List, [], ◌∷◌, Bool, cond, Option, Some, None, find, option_map}
use Rattle.std.specs.Prelude.{slice_index_or}
use Rattle.std.specs.Cmp.Lexicographic.{slice_cmp}
use Rattle.std.specs.List.{All}
use Rattle.std.specs.List.Sorted.{IsSortedBy}
use Rattle.std.specs.Ordering.{is_lt, nat_cmp}
use Rattle.std.specs.Str.{bytes_eq}
use Rattle.meta.specs.declared.places.Places.{Places}

-- the first place of a name
abbrev pub first_place : List ℕ → List (List ℕ) → Option ℕ
first_place name [] = None
first_place name (n ∷ ns) = cond (bytes_eq n name) (Some 0) (option_map suc (first_place name ns))

module _ (names : List (List ℕ)) where
  -- the name at a place
  abbrev pub name_at : ℕ → List ℕ
  name_at i = slice_index_or names i []

  abbrev pub is_at : List ℕ → ℕ → Bool
  is_at name i = bytes_eq (name_at i) name

  -- the name at one place is less than that at another
  abbrev pub is_below : ℕ → ℕ → Bool
  is_below i j = is_lt (slice_cmp nat_cmp (name_at i) (name_at j))

  -- the names at the places ascend
  abbrev pub AreAscending : List ℕ → Type 0
  AreAscending places = IsSortedBy is_below places

  -- among the indices of one name the least comes first
  abbrev pub StandFirst : List ℕ → Type 0
  StandFirst places = (name : List ℕ) → find (is_at name) places ≡ first_place name names

  -- the place, if there is one, is the first of its name
  abbrev pub IsFirst : Option ℕ → Type 0
  IsFirst held = (place : ℕ) → held ≡ Some place → first_place (name_at place) names ≡ Some place

  -- the places of all names in their order and by slots, or none
  abbrev pub ArePlaces : Places → Type 0
  ArePlaces p = (p.order.items ≡ [] → ⊥) → AreAscending p.order.items × StandFirst p.order.items × All IsFirst p.slots.items
