-- What was found is a list of true reasons, in postfix order.
use Rattle.std.specs.Prelude.{ℕ, ◌<◌, List, [], ◌∷◌, ◌++◌, length, Bool, true, false, ◌≡◌, ◌⊎◌}
use Rattle.std.specs.List.{All, Contains}
use Rattle.merge_sets.specs.declared.node.Entry.{Entry}
use Rattle.merge_search.specs.declared.state.Search.{Search}
use Rattle.merge_sets.specs.declared.finding.Finding.{Finding}
use Rattle.merge_sets.specs.declared.finding.Finding.TheVariants.{Direct, Nested}
use Rattle.merge_sets.specs.Judgement.{Lawful}
use Rattle.merge_sets.specs.Graph.{IsWhole}
use Rattle.merge_sets.specs.World.{World, HasRoom, own_of, spreads_of, set_of, conflict_of, exclusive_of, Same}
use Rattle.merge_sets.specs.Merging.{Stands, Below, Apart, Merges, SetMerges, Way, Passes}

-- The two fields of a report.
pub record Root : Type 0 where
  pub left : Entry
  pub right : Entry

abbrev pub NestedRoot : World → Entry → Entry → Root → Type 0
NestedRoot w a b r = Below w a b r.left r.right ⊎ Below w a b r.right r.left

-- The findings write trees with these roots, the newest first, each true of its pair under the flag.
pub data Trees (w : World) : Bool → List Root → List Finding → Type 0 where
  none : {e : Bool} → Trees w e [] []
  leaf : {e : Bool} {rs : List Root} {xs : List Finding} (a b : Entry) → Trees w e rs xs → conflict_of w e a b ≡ true
      → Trees w e (record { left = a; right = b } ∷ rs) (xs ++ Direct a b e ∷ [])
  node : {e : Bool} {rs ss : List Root} {xs ys : List Finding} (a b : Entry) → Trees w e rs xs → conflict_of w e a b ≡ false
      → Trees w (exclusive_of w e a b) ss ys → 0 < length ys → All (NestedRoot w a b) ss
      → Trees w e (record { left = a; right = b } ∷ rs) (xs ++ (ys ++ Nested a b (length ys) ∷ []))

-- From old to new, true trees were added whose roots have the property P.
pub record Adds (w : World) (e : Bool) (P : Root → Type 0) (old new : List Finding) : Type 0 where
  pub roots : List Root
  pub more : List Finding
  pub grown : new ≡ old ++ more
  pub shown : Trees w e roots more
  pub placed : All P roots

-- Each pair of P that fails of itself is a root.
abbrev pub Tells : World → Bool → (Root → Type 0) → List Root → Type 0
Tells w e P roots = (r : Root) → P r → conflict_of w e r.left r.right ≡ true → Contains roots r

-- The same, and where there is room for more, each pair of Q that fails of itself has a tree of its own.
pub record AddsAll (w : World) (e : Bool) (P Q : Root → Type 0) (old new : List Finding) : Type 0 where
  pub adds : Adds w e P old new
  pub tells : HasRoom w new → Tells w e Q adds.roots

-- The same of what a search has found.
abbrev pub Finds : World → Bool → (Root → Type 0) → Search → Search → Type 0
Finds w e P old new = Adds w e P old.found.items new.found.items

abbrev pub FindsAll : World → Bool → (Root → Type 0) → (Root → Type 0) → Search → Search → Type 0
FindsAll w e P Q old new = AddsAll w e P Q old.found.items new.found.items

abbrev pub AtFields : Entry → Entry → Root → Type 0
AtFields a b r = (r.left ≡ a) × (r.right ≡ b)

-- A field, and one of some others.
abbrev pub AtRest : Entry → List Entry → Root → Type 0
AtRest a rest r = (r.left ≡ a) × Contains rest r.right

-- A field of each list.
abbrev pub AtLists : List Entry → List Entry → Root → Type 0
AtLists left right r = Contains left r.left × Contains right r.right

abbrev pub AtWith : World → Entry → ℕ → Root → Type 0
AtWith w a j r = (r.left ≡ a) × Contains (own_of w j) r.right × Same r.left r.right

abbrev pub AtNamed : World → ℕ → ℕ → ℕ → Root → Type 0
AtNamed w i j n r = Contains (own_of w i) r.left × (r.left.response ≡ n) × Contains (own_of w j) r.right × Same r.left r.right

abbrev pub AtOwn : World → ℕ → ℕ → Root → Type 0
AtOwn w i j r = Contains (own_of w i) r.left × Contains (own_of w j) r.right × Same r.left r.right

abbrev pub AtSearch : World → ℕ → ℕ → Root → Type 0
AtSearch w i g r = Contains (own_of w i) r.left × Stands w (set_of w g) r.right × Same r.left r.right

abbrev pub AtFragments : World → ℕ → ℕ → Root → Type 0
AtFragments w f g r = (f ≡ g → ⊥) × Stands w (set_of w f) r.left × Stands w (set_of w g) r.right × Same r.left r.right

abbrev pub AtFirst : World → ℕ → ℕ → Root → Type 0
AtFirst w f j r = (g : ℕ) × Contains (spreads_of w j) g × AtFragments w f g r

abbrev pub AtBelow : World → ℕ → ℕ → Root → Type 0
AtBelow w i j r =
    (Stands w i r.left × Stands w j r.right × Same r.left r.right)
    ⊎ (Stands w j r.left × Stands w i r.right × Same r.left r.right)

-- Two places of a written-out set, of one response name.
abbrev pub AtPlaces : World → ℕ → Root → Type 0
AtPlaces w s r = Apart w s r.left r.right × Same r.left r.right

-- The own fault of the pair stands in what was found, in one of its two orders.
abbrev pub Told : World → List Finding → Entry → Entry → Type 0
Told w found a b =
    ((conflict_of w false a b ≡ true) × Contains found (Direct a b false))
    ⊎ ((conflict_of w false b a ≡ true) × Contains found (Direct b a false))

abbrev pub IsRoot : List Root → Entry → Entry → Type 0
IsRoot roots a b = Contains roots (record { left = a; right = b }) ⊎ Contains roots (record { left = b; right = a })

-- Two places of a set that stands in the order, written out, of one response name.
abbrev pub AtSearched : World → List ℕ → Root → Type 0
AtSearched w order r = (s : ℕ) × Contains order s × AtPlaces w s r

-- Every report is true: the trees of two places of a written-out set of the order.
abbrev pub Real : World → List ℕ → List Finding → Type 0
Real w order found = Adds w false (AtSearched w order) [] found

-- Nothing is missed: no report where all sets of the order merge, each failing pair of such a set is reported, and at
-- the top where one of the two is an own field of the set. Where each set stands in the order, there is no report only
-- if every set merges, and each way to a fault passes a report.
pub record Complete (w : World) (order : List ℕ) (found : List Finding) (roots : List Root) : Type 0 where
  pub exact : IsWhole w.sets order → found ≡ [] → (s : ℕ) (a b : Entry) → Stands w s a → Stands w s b → Same a b → Merges w false a b
  pub merges : IsWhole w.sets order → found ≡ [] → (s : ℕ) → SetMerges w s
  pub ways : IsWhole w.sets order → (s : ℕ) (a b : Entry) → Stands w s a → Stands w s b → Same a b → (v : Way w false a b) → Passes found v
  pub failing : (s : ℕ) (a b : Entry) → Contains order s → Stands w s a → Stands w s b → Same a b
      → conflict_of w false a b ≡ true → Told w found a b
  pub at_the_top : (s : ℕ) (a b : Entry) → Contains order s → Contains (own_of w s) a → Stands w s b → Same a b
      → conflict_of w false a b ≡ true → IsRoot roots a b

-- What was found is true. Where the judgement keeps its laws, and there is room for more, nothing is missed; and where
-- something was found, not all sets merge.
pub record Judged (w : World) (order : List ℕ) (found : List Finding) : Type 0 where
  pub real : Real w order found
  pub complete : HasRoom w found → Lawful w.judgement → Complete w order found real.roots
  pub refuses : Lawful w.judgement → 0 < length found → ((s : ℕ) → Contains order s → SetMerges w s) → ⊥
