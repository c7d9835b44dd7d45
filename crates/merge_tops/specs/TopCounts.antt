-- How much the searches of sets open, one set after the other.
use Rattle.std.specs.Prelude.{ℕ, ◌+◌, ◌*◌, ◌≤◌, ◌==◌, ◌≡◌, List, cond, length, min, sum_by}
use Rattle.merge_sets.specs.declared.node.InnerSet.{InnerSet}
use Rattle.merge_sets.specs.World.{World}
use Rattle.merge_search.specs.Counts.{all_spreads, greatest, most_repeats, spread_count}
use Rattle.merge_tops.specs.declared.counts.TopCounts.{TopCounts}

-- A search was counted that opened so many fragments, and looked at so many spreads.
pub record CountsOpening (n l : ℕ) (old new : TopCounts) : Type 0 where
  pub lists : new.lists ≡ min (old.lists + 1) greatest
  pub opened : new.opened ≡ min (old.opened + n) greatest
  pub looked : new.looked ≡ min (old.looked + l) greatest

-- A search was counted that opened these fragments.
abbrev pub OpensCounted : World → List ℕ → TopCounts → TopCounts → Type 0
OpensCounted w hs = CountsOpening (length hs) (min (sum_by (spread_count w) hs) greatest)

-- Each search opened each fragment once at most, and looked at each spread once at most.
pub record AreWithin (w : World) (c : TopCounts) : Type 0 where
  pub opened : c.opened ≤ length w.fragments * c.lists
  pub looked : c.looked ≤ all_spreads w * c.lists

-- There were so many more searches at most.
pub record OpensAtTop (w : World) (k : ℕ) (old new : TopCounts) : Type 0 where
  pub lists : new.lists ≤ old.lists + k
  pub within : AreWithin w old → AreWithin w new

-- A set is searched once, and so is each inline fragment in it.
abbrev pub inner_list : ℕ → InnerSet → ℕ
inner_list s i = cond (i.outer == s) 1 0

abbrev pub set_lists : List InnerSet → ℕ → ℕ
set_lists inner s = 1 + sum_by (inner_list s) inner

abbrev pub top_lists : List InnerSet → List ℕ → ℕ
top_lists inner order = sum_by (set_lists inner) order

-- How often a fragment is opened at most: by the searches of sets, by each set below fields, with the flag and without it,
-- and by the searches that are repeated.
abbrev pub most_openings : World → List InnerSet → List ℕ → ℕ
most_openings w inner order = 2 * length w.sets + most_repeats + top_lists inner order
