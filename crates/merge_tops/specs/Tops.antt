-- What is asked of the sets, one after another.
use Rattle.std.specs.Prelude.{ℕ, ◌<◌, List, [], ◌∷◌, ◌++◌, Some, true, false, ◌≡◌, ◌⊎◌, slice_get}
use Rattle.std.specs.List.{All, Contains}
use Rattle.bit_matrix.specs.Set.{has}
use Rattle.bit_matrix.specs.declared.set.BitSet.{BitSet}
use Rattle.merge_sets.specs.declared.node.Entry.{Entry}
use Rattle.merge_search.specs.declared.state.Search.{Search}
use Rattle.merge_sets.specs.World.{World, own_of, spreads_of, set_of, Same}
use Rattle.merge_sets.specs.Plain.{IsPlain}
use Rattle.merge_search.specs.Work.{Pair, Done}
use Rattle.merge_sets.specs.Merging.{Stands}
use Rattle.merge_search.specs.Reports.{Root, AtFragments}

-- Two own fields, the first before the second.
abbrev pub OwnWithin : World → Search → ℕ → Type 0
OwnWithin w M s = (k l : ℕ) (a b : Entry) → k < l → slice_get (own_of w s) k ≡ Some a
    → slice_get (own_of w s) l ≡ Some b → Same a b → Done w M false a b

-- The own fields of a set, and a fragment written out.
abbrev pub OwnWritten : World → Search → ℕ → ℕ → Type 0
OwnWritten w M s f = (a b : Entry) → Contains (own_of w s) a → Stands w (set_of w f) b → Same a b → Done w M false a b

-- Each two fragments that a set spreads.
abbrev pub SpreadsWithin : World → Search → ℕ → Type 0
SpreadsWithin w M s =
    (k l f g : ℕ) → k < l → slice_get (spreads_of w s) k ≡ Some f → slice_get (spreads_of w s) l ≡ Some g
    → Pair M false f g

-- What the search asks of one set.
abbrev pub Top : World → Search → ℕ → Type 0
Top w M s = OwnWithin w M s × All (λ f. OwnWritten w M s f) (spreads_of w s) × SpreadsWithin w M s

-- P of each two of a list, the first standing before the second.
abbrev pub AllBefore : {X : Type 0} → (X → X → Type 0) → List X → Type 0
AllBefore {X} P xs = (k l : ℕ) (a b : X) → k < l → slice_get xs k ≡ Some a → slice_get xs l ≡ Some b → P a b

abbrev pub AtBefore : List Entry → Root → Type 0
AtBefore xs r = (k : ℕ) × (l : ℕ) × (k < l) × (slice_get xs k ≡ Some (r.left)) × (slice_get xs l ≡ Some (r.right))

-- Two own fields of one response name, the first before the second.
abbrev pub AtWithin : World → ℕ → Root → Type 0
AtWithin w s r = AtBefore (own_of w s) r × Same r.left r.right

-- An own field, and one of a fragment.
abbrev pub AtWritten : World → ℕ → ℕ → Root → Type 0
AtWritten w s f r = Contains (own_of w s) r.left × Stands w (set_of w f) r.right × Same r.left r.right

-- An own field, and one of some fragments.
abbrev pub AtSpreads : World → ℕ → List ℕ → Root → Type 0
AtSpreads w s gs r = (f : ℕ) × Contains gs f × AtWritten w s f r

-- An own field, and one of a fragment that the set spreads.
abbrev pub AtSpread : World → ℕ → Root → Type 0
AtSpread w s r = AtSpreads w s (spreads_of w s) r

-- An own field, and an own field after it or one that is spread.
abbrev pub AtTop : World → ℕ → Root → Type 0
AtTop w s r = AtWithin w s r ⊎ AtSpread w s r

-- A fragment, and another one of a list.
abbrev pub AtListed : World → ℕ → List ℕ → Root → Type 0
AtListed w f list r = (g : ℕ) × Contains list g × AtFragments w f g r

-- Two fragments of a list.
abbrev pub AtTwo : World → List ℕ → Root → Type 0
AtTwo w list r = (f : ℕ) × Contains list f × AtListed w f list r

-- All that is asked of a fragment and a list, but for what is marked as plain.
abbrev pub SpreadDone : World → Search → BitSet → List ℕ → ℕ → Type 0
SpreadDone w M plain list f = (has plain (set_of w f) ≡ true) ⊎ All (Pair M false f) list

-- The fragment was added, or it is plain.
abbrev pub AddsUnmarked : World → ℕ → List ℕ → List ℕ → Type 0
AddsUnmarked w f old new = (new ≡ old ++ f ∷ []) ⊎ ((new ≡ old) × IsPlain w (set_of w f))

-- Some fragments of a list: of those that were seen all but plain ones.
pub record AreAllBut (w : World) (list seen others : List ℕ) : Type 0 where
  pub only : All (λ g. Contains list g) others
  pub all : All (λ g. Contains others g ⊎ IsPlain w (set_of w g)) seen

-- Each marked one of some fragments was noted with all that have smaller numbers.
abbrev pub MarkedDone : World → Search → BitSet → List ℕ → ℕ → Type 0
MarkedDone w M plain list f = has plain (set_of w f) ≡ true → (g : ℕ) → Contains list g → g < f → Pair M false f g

-- The same two fragments, in either order.
abbrev pub SamePair : ℕ × ℕ → ℕ × ℕ → Type 0
SamePair p q = ((p.0 ≡ q.0) × (p.1 ≡ q.1)) ⊎ ((p.0 ≡ q.1) × (p.1 ≡ q.0))

-- Two different fragments that one set of the order spreads.
abbrev pub SpreadTogether : World → List ℕ → ℕ × ℕ → Type 0
SpreadTogether w order p =
    (p.0 ≡ p.1 → ⊥) × ((s : ℕ) × Contains order s × Contains (spreads_of w s) (p.0) × Contains (spreads_of w s) (p.1))

-- Pairs of fragments that some set of the order spreads together, each once.
pub record Together (w : World) (order : List ℕ) (ps : List (ℕ × ℕ)) : Type 0 where
  pub spread : All (SpreadTogether w order) ps
  pub once : (k l : ℕ) (p q : ℕ × ℕ) → k < l → slice_get ps k ≡ Some p → slice_get ps l ≡ Some q → SamePair p q → ⊥
