-- What a search has done, seen from any later state M.
use Rattle.std.specs.Prelude.{ℕ, ◌≤◌, [], length, Some, None, Bool, true, false, ◌≡◌, ◌⊎◌}
use Rattle.std.specs.List.{All, Contains}
use Rattle.merge_sets.specs.declared.node.Entry.{Entry}
use Rattle.merge_search.specs.declared.state.Search.{Search}
use Rattle.merge_sets.specs.declared.finding.Finding.{Finding}
use Rattle.merge_sets.specs.declared.finding.Finding.TheVariants.{Direct}
use Rattle.merge_sets.specs.World.{World, HasRoom, own_of, spreads_of, set_of, conflict_of, exclusive_of, Same}
use Rattle.merge_search.specs.Log.{Covers}
pub use Rattle.merge_search.specs.Questions.{pair_in, search_in}
use Rattle.merge_sets.specs.Merging.{Merges, MergeEither}
use Rattle.merge_search.specs.Counts.{Tally}

abbrev pub Searched : Search → Bool → ℕ → ℕ → Type 0
Searched M e i g = Covers (search_in M) e i g

-- So they were, unless the set has no own field.
abbrev pub SearchDone : World → Search → Bool → ℕ → ℕ → Type 0
SearchDone w M e i g = (own_of w i ≡ []) ⊎ Searched M e i g

abbrev pub Pair : Search → Bool → ℕ → ℕ → Type 0
Pair M e f g = (f ≡ g) ⊎ Covers (pair_in M) e f g

abbrev pub Asked : World → Search → Bool → ℕ → ℕ → Type 0
Asked w M x s t =
    All (λ h. SearchDone w M x s h) (spreads_of w t)
    × All (λ h. SearchDone w M x t h) (spreads_of w s)
    × All (λ g. All (λ h. Pair M x g h) (spreads_of w t)) (spreads_of w s)

-- The pair was compared: its fault is in the list, or all that stands below was asked for. Or it is known that the two
-- merge.
pub data Done (w : World) (M : Search) : Bool → Entry → Entry → Type 0 where
  stood : {e : Bool} {a b : Entry} → conflict_of w e a b ≡ true → Contains M.found.items (Direct a b e) → Done w M e a b
  shallow : {e : Bool} {a b : Entry} → conflict_of w e a b ≡ false → (a.below ≡ None) ⊎ (b.below ≡ None) → Done w M e a b
  deep : {e : Bool} {a b : Entry} {s t : ℕ} → conflict_of w e a b ≡ false → a.below ≡ Some s → b.below ≡ Some t
      → ((c d : Entry) → Contains (own_of w s) c → Contains (own_of w t) d → Same c d → Done w M (exclusive_of w e a b) c d)
      → Asked w M (exclusive_of w e a b) s t → Done w M e a b
  merged : {e : Bool} {a b : Entry} → Merges w e a b → Done w M e a b

abbrev pub OwnPairs : World → Search → Bool → ℕ → ℕ → Type 0
OwnPairs w M e s t = (c d : Entry) → Contains (own_of w s) c → Contains (own_of w t) d → Same c d → Done w M e c d

abbrev pub SetsDone : World → Search → Bool → ℕ → ℕ → Type 0
SetsDone w M e s t = OwnPairs w M e s t × Asked w M e s t

abbrev pub ClosedSearch : World → Search → Bool → ℕ → ℕ → Type 0
ClosedSearch w M x i g = OwnPairs w M x i (set_of w g) × All (λ h. Searched M x i h) (spreads_of w (set_of w g))

abbrev pub ClosedPair : World → Search → Bool → ℕ → ℕ → Type 0
ClosedPair w M x f g =
    OwnPairs w M x (set_of w f) (set_of w g)
    × All (λ h. Pair M x f h) (spreads_of w (set_of w g))
    × All (λ h. Pair M x h g) (spreads_of w (set_of w f))

-- Two fragments were compared, in either order, or they are known to merge.
abbrev pub FollowedUp : World → Search → Bool → ℕ → ℕ → Type 0
FollowedUp w M x f g = (ClosedPair w M x f g ⊎ ClosedPair w M x g f) ⊎ MergeEither w f g

-- Everything that is recorded in s is followed up in M.
pub record AllClosed (w : World) (M s : Search) : Type 0 where
  pub pairs_closed : (x : Bool) (f g : ℕ) → pair_in s x f g ≡ true → FollowedUp w M x f g
  pub searches_closed : (x : Bool) (i g : ℕ) → search_in s x i g ≡ true → ClosedSearch w M x i g

pub record Grows (old new : Search) : Type 0 where
  pub more_pairs : (x : Bool) (f g : ℕ) → pair_in old x f g ≡ true → pair_in new x f g ≡ true
  pub more_searched : (x : Bool) (i g : ℕ) → search_in old x i g ≡ true → search_in new x i g ≡ true
  pub more_found : (y : Finding) → Contains old.found.items y → Contains new.found.items y
  pub longer : length old.found.items ≤ length new.found.items

-- A piece of work from old to new, after which P holds at any later state that has room for more.
pub record Did (w : World) (P : Search → Type 0) (old new : Search) : Type 0 where
  pub grows : Grows old new
  pub holds : (M : Search) → Grows new M → HasRoom w M.found.items → P M
  pub closes : (M : Search) → Grows new M → HasRoom w M.found.items → AllClosed w M old → AllClosed w M new
  pub keeps : Tally w old → Tally w new
