-- What a search below a field opens: each fragment is noted when it is opened.
use Rattle.std.specs.Prelude.{ℕ, ◌+◌, ◌*◌, ◌<◌, ◌≤◌, ◌++◌, ◌∷◌, [], List, length, min, sum_by, Bool, true, ◌≡◌, ◌⊎◌}
use Rattle.std.specs.List.{All, Contains}
use Rattle.bit_matrix.specs.Set.{has}
use Rattle.merge_sets.specs.declared.opening.Opening.{Opening}
use Rattle.merge_sets.specs.Opening.{Reaches}
use Rattle.merge_sets.specs.Sound.{Once}
use Rattle.merge_sets.specs.World.{World, spreads_of, set_of}
use Rattle.merge_search.specs.declared.state.Search.{Search}
use Rattle.merge_search.specs.Counts.{asked, greatest, spread_count}
use Rattle.merge_search.specs.Spending.{credit}
use Rattle.merge_search.specs.State.{CountsList}
use Rattle.merge_search.specs.Weight.{fragment_weight, weight}
use Rattle.merge_search.specs.Work.{Searched, search_in}

-- The own fields of a set are to be compared with some fragments, under a flag: that is noted, and nothing else. Each of
-- them pays for itself, however fragments are measured.
pub record Asks (w : World) (e : Bool) (i : ℕ) (hs : List ℕ) (old new : Search) : Type 0 where
  pub noted : All (λ h. Searched new e i h) hs
  pub kept : (x : Bool) (j h : ℕ) → search_in old x j h ≡ true → search_in new x j h ≡ true
  pub only : (x : Bool) (j h : ℕ) → search_in new x j h ≡ true
      → (search_in old x j h ≡ true) ⊎ ((x ≡ e) × (j ≡ i) × Contains hs h)
  pub pays : credit w old + weight w i * sum_by (fragment_weight w) hs ≤ credit w new
  pub counts : (g : ℕ → ℕ) → asked w g old + sum_by g hs ≤ asked w g new
  pub pairs : new.pairs ≡ old.pairs
  pub found : new.found.items ≡ old.found.items
  pub compared : new.compared ≡ old.compared
  pub opened : new.opened ≡ old.opened
  pub looked : new.looked ≡ old.looked
  pub lists : new.lists ≡ old.lists
  pub judged : new.judged ≡ old.judged

-- The fragment was added to those that are open, and waits.
pub record Pushes (f : ℕ) (old new : Opening) : Type 0 where
  pub there : has new.seen f ≡ true
  pub others : (h : ℕ) → (h ≡ f → ⊥) → has new.seen h ≡ has old.seen h
  pub order : new.order.items ≡ old.order.items ++ f ∷ []
  pub waiting : new.waiting.items ≡ old.waiting.items ++ f ∷ []

-- Some fragments are open now, or were compared with the set. Those that are new wait, and are asked for.
pub record OpensEach (w : World) (e : Bool) (i : ℕ) (fs : List ℕ) (before after : Opening) (old new : Search) : Type 0 where
  pub added : List ℕ
  pub order : after.order.items ≡ before.order.items ++ added
  pub waiting : after.waiting.items ≡ before.waiting.items ++ added
  pub among : All (λ h. Contains fs h) added
  pub once : Once before → Once after
  pub asks : Asks w e i added old new
  pub met : Once before → All (λ f. Contains before.order.items f ⊎ Searched new e i f) fs

-- What was opened from a fragment on is noted, and so is what that spreads, unless it waits.
pub record OpensFrom (w : World) (e : Bool) (i g : ℕ) (o : Opening) (old new : Search) : Type 0 where
  pub once : Once o
  pub asks : Asks w e i o.order.items old new
  pub first : Searched new e i g
  pub reached : All (Reaches w g) o.order.items
  pub there : All (λ h. h < length w.fragments) o.order.items
  pub waiting : All (λ h. Contains o.order.items h) o.waiting.items
  pub followed : (h : ℕ) → Contains o.order.items h
      → Contains o.waiting.items h ⊎ All (λ k. Searched new e i k) (spreads_of w (set_of w h))

-- The search has opened these fragments from one on: what it reaches and was not noted before. No more are noted, nor
-- more than there are.
pub record OpensBelow (w : World) (e : Bool) (i g : ℕ) (hs : List ℕ) (old new : Search) : Type 0 where
  pub asks : Asks w e i hs old new
  pub first : Searched new e i g
  pub followed : All (λ h. All (λ k. Searched new e i k) (spreads_of w (set_of w h))) hs
  pub reached : All (Reaches w g) hs
  pub few : length hs ≤ length w.fragments

-- And they were counted, with their spreads.
pub record OpensCounted (w : World) (e : Bool) (i g : ℕ) (hs : List ℕ) (old new : Search) : Type 0 where
  pub mid : Search
  pub opens : OpensBelow w e i g hs old mid
  pub counts : CountsList (length hs) (min (sum_by (spread_count w) hs) greatest) mid new
