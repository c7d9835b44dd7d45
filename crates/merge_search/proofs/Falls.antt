-- What a set refers to is smaller.
use Rattle.std.proofs.Common.{◌≡◌, ◌==◌, ℕ, ◌<◌, ◌≤◌, List, length, get_or, sym, subst, arith}
use Rattle.std.specs.List.{All}
use Rattle.std.proofs.lemmas.List.Elements.{All-get_or, All-filter, All-contains}
use Rattle.merge_sets.specs.declared.node.Entry.{Entry}
use Rattle.merge_sets.specs.Graph.{Falling, height}
use Rattle.merge_sets.specs.Names.{named}
use Rattle.merge_sets.specs.World.{World, own_of, spreads_of, set_of}
use Rattle.merge_sets.specs.Opening.{Reaches, start, step}

pub spread_falls : (w : World) (s : ℕ) (xs : List ℕ) (k : ℕ) → Falling w.sets w.fragments → xs ≡ spreads_of w s → k < length xs
    → (get_or xs k 0 < length w.fragments) × (set_of w (get_or xs k 0) < s)
spread_falls w s xs k f eq l = All-get_or (λ g. (g < length w.fragments) × (set_of w g < s)) xs k 0 l (subst (λ ys. All (λ g. (g < length w.fragments) × (set_of w g < s)) ys) (sym eq) (f s).1)

pub own_falls : (w : World) (s n : ℕ) (xs : List Entry) (k : ℕ) (d : Entry) → Falling w.sets w.fragments → xs ≡ named n (own_of w s) → k < length xs → height (get_or xs k d) ≤ s
own_falls w s n xs k d f eq l = All-get_or (λ a. height a ≤ s) xs k d l (subst (λ ys. All (λ a. height a ≤ s) ys) (sym eq) (All-filter (λ a. a.response == n) (λ a. height a ≤ s) (own_of w s) (f s).0))

pub reach_falls : (w : World) (g h : ℕ) → Falling w.sets w.fragments → Reaches w g h → set_of w h ≤ set_of w g
reach_falls w g h f start = omega arith
reach_falls w g h f (step {h = k} r c) =
    omega (arith, reach_falls w g k f r, (All-contains (λ i. (i < length w.fragments) × (set_of w i < set_of w k)) (spreads_of w (set_of w k)) h (f (set_of w k)).1 c).1)
