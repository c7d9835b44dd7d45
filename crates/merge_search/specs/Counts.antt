-- What was counted.
use Rattle.std.specs.Prelude.{ℕ, ◌<◌, ◌≤◌, ◌+◌, ◌*◌, ◌^◌, ◌-◌, min, List, length, Some, Bool, false, true, ◌≡◌, ◌⊎◌, slice_get}
use Rattle.std.specs.List.{All, Contains}
use Rattle.merge_sets.specs.World.{World, spreads_of, set_of}
use Rattle.merge_search.specs.declared.state.Search.{Search}
use Rattle.merge_search.specs.Questions.{pair_in, search_in, sum_below, worth}

-- Two fragments that were compared, with the flag.
pub record Compared : Type 0 where
  pub first : ℕ
  pub second : ℕ
  pub flag : Bool

-- One pair, in either order, and one flag.
abbrev pub Repeats : Compared → Compared → Type 0
Repeats r q = (r.flag ≡ q.flag) × (((r.first ≡ q.first) × (r.second ≡ q.second)) ⊎ ((r.first ≡ q.second) × (r.second ≡ q.first)))

-- No pair stands twice under one flag, and no fragment beside itself.
pub record Distinct (log : List Compared) : Type 0 where
  pub apart : (k l : ℕ) (r q : Compared) → k < l → slice_get log k ≡ Some r → slice_get log l ≡ Some q → Repeats r q → ⊥
  pub different : All (λ r. r.first ≡ r.second → ⊥) log

-- The greatest count.
abbrev pub greatest : ℕ
greatest = 2 ^ 128 - 1

-- The most searches below fields that are repeated.
abbrev pub most_repeats : ℕ
most_repeats = 100

-- What a fragment spreads, and what all do.
abbrev pub spread_count : World → ℕ → ℕ
spread_count w f = length (spreads_of w (set_of w f))

abbrev pub all_spreads : World → ℕ
all_spreads w = sum_below (spread_count w) (length w.fragments)

-- The searches below fields, each measured by its fragment; one that is repeated, by all.
abbrev pub searches_of : World → (ℕ → ℕ) → Search → Bool → ℕ
searches_of w g s e = worth (length w.sets) (length w.fragments) (λ i. 1) g (search_in s e)

abbrev pub asked : World → (ℕ → ℕ) → Search → ℕ
asked w g s = searches_of w g s false + searches_of w g s true + sum_below g (length w.fragments) * min s.repeated most_repeats

-- The counts of a search: each pair that is recorded was counted once, and each fragment that was opened was asked for.
pub record Tally (w : World) (s : Search) : Type 0 where
  pub log : List Compared
  pub distinct : Distinct log
  pub within : All (λ r. (r.first < length w.fragments) × (r.second < length w.fragments)) log
  pub counted : s.compared ≡ min (length log) greatest
  pub recorded : All (λ r. pair_in s r.flag r.first r.second ≡ true) log
  pub listed : (x : Bool) (f g : ℕ) → pair_in s x f g ≡ true
      → Contains log (record { first = f; second = g; flag = x }) ⊎ Contains log (record { first = g; second = f; flag = x })
  pub opened : s.opened ≤ length w.fragments * s.lists
  pub linear : s.opened ≤ asked w (λ h. 1) s
  pub looked : s.looked ≤ asked w (spread_count w) s
