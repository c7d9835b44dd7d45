-- What a closed log says of every pair of a written-out set.
use Rattle.std.proofs.Common.{refl, ℕ, zero, suc, ◌<◌, ◌≤◌, List, Some, None, Bool, true, false, ◌≡◌, ◌⊎◌, inl, inr, subst, sym, arith, slice_get, ◌∙◌, ap, length}
use Rattle.std.specs.List.{All, Contains}
use Rattle.std.specs.Option.{option_map_or}
use Rattle.std.proofs.lemmas.List.Elements.{All-contains}
use Rattle.std.proofs.lemmas.Option.{slice_get-get_or}
use Rattle.std.proofs.lemmas.Bool.{cases_order}
use Rattle.merge_sets.specs.declared.node.Entry.{Entry}
use Rattle.merge_search.specs.declared.state.Search.{Search}
use Rattle.merge_sets.specs.declared.finding.Finding.TheVariants.{Direct}
use Rattle.merge_sets.specs.Judgement.{Lawful}
use Rattle.merge_sets.specs.Graph.{Falling, IsWhole, height}
use Rattle.merge_sets.specs.World.{World, own_of, spreads_of, set_of, conflict_of, exclusive_of, Same}
use Rattle.merge_search.specs.Log.{Covers}
use Rattle.merge_search.specs.Work.{pair_in, SearchDone, Searched, Pair, Asked, Done, stood, shallow, deep, merged, OwnPairs, FollowedUp, AllClosed}
use Rattle.merge_sets.specs.Merging.{Stands, own, spread, Below, below, Merges, merges, MergeEither, Way, here, down, Good, Passes}
use Rattle.merge_tops.specs.Tops.{Top}
use Rattle.merge_search.specs.Reports.{Told}
use Rattle.merge_sets.proofs.Laws.{Le, least, even, up, both, conflict_up, exclusive_up, conflict_flip, exclusive_flip, conflict_self, clash, clash_some, same_some}
use Rattle.merge_search.proofs.Flips.{flip_pair}
use Rattle.merge_search.proofs.Weights.{lt_or_le}
use Rattle.merge_sets.proofs.NoSet.{no_own, no_spreads}

place_of : {X : Type 0} (xs : List X) (a : X) (p : Contains xs a) → slice_get xs p.0 ≡ Some a
place_of xs a p = slice_get-get_or xs p.0 a p.1 ∙ ap (λ x. Some x) p.2

-- a set in which something stands is there
is_there : (w : World) (s : ℕ) (a : Entry) → Stands w s a → s < length w.sets
is_there w s a h = elim (lt_or_le s (length w.sets)) [
  | inl l ↦ l
  | inr g ↦ absurd (nothing h g)
]
  where
    nothing : Stands w s a → length w.sets ≤ s → ⊥
    nothing (own p) g = omega (arith, p.1, no_own w s g)
    nothing (spread v p) g = omega (arith, v.1, no_spreads w s g)

module _ (w : World) (M : Search) (falling : Falling w.sets w.fragments) (closed : AllClosed w M M) (order : List ℕ) (listed : (f : ℕ) → f < length w.fragments → Contains order (set_of w f))
    (top : (s : ℕ) → Contains order s → Top w M s) where
  abbrev pub K : Bool → ℕ → ℕ → Type 0
  K e f g = Covers (pair_in M) e f g

  pub data DoneW : Bool → Entry → Entry → Type 0 where
    forth : {e : Bool} {a b : Entry} → Done w M e a b → DoneW e a b
    back : {e : Bool} {a b : Entry} → Done w M e b a → DoneW e a b
    weak : {e : Bool} {a b : Entry} → DoneW false a b → DoneW e a b

  falls : (s f : ℕ) → Contains (spreads_of w s) f → set_of w f < s
  falls s f c = (All-contains (λ g. (g < length w.fragments) × (set_of w g < s)) (spreads_of w s) f (falling s).1 c).1

  -- the set of a fragment that is spread stands in the order
  in_order : (s f : ℕ) → Contains (spreads_of w s) f → Contains order (set_of w f)
  in_order s f c = listed f (All-contains (λ g. (g < length w.fragments) × (set_of w g < s)) (spreads_of w s) f (falling s).1 c).0

  at_flag : {x e : Bool} {a b : Entry} → (x ≡ e) ⊎ (x ≡ false) → DoneW x a b → DoneW e a b
  at_flag {a = a} {b = b} (inl eq) d = subst (λ y. DoneW y a b) eq d
  at_flag {a = a} {b = b} (inr eq) d = weak (subst (λ y. DoneW y a b) eq d)

  through : {x e y : Bool} → (x ≡ e) ⊎ (x ≡ false) → (y ≡ x) ⊎ (y ≡ false) → (y ≡ e) ⊎ (y ≡ false)
  through (inl eq) (inl eq') = inl (eq' ∙ eq)
  through (inr eq) (inl eq') = inr (eq' ∙ eq)
  through l (inr eq') = inr eq'

  searched_at : (x e : Bool) (i g : ℕ) → (x ≡ e) ⊎ (x ≡ false) → Searched M x i g → Searched M e i g
  searched_at x e i g l c = (c.0, through l c.1, c.2)

  pair_at : (x e : Bool) (s t : ℕ) → (x ≡ e) ⊎ (x ≡ false) → Pair M x s t → Pair M e s t
  pair_at x e s t l (inl eq) = inl eq
  pair_at x e s t l (inr c) = inr (c.0, through l c.1, c.2)

  flip : {e : Bool} {a b : Entry} → DoneW e a b → DoneW e b a
  flip (forth d) = back d
  flip (back d) = forth d
  flip (weak d) = weak (flip d)

  at_pair : (e : Bool) (f g : ℕ) → K e f g → (x : Bool) × ((x ≡ e) ⊎ (x ≡ false)) × FollowedUp w M x f g
  at_pair e f g c = (c.0, c.1, closed.pairs_closed c.0 f g c.2)

  -- two fragments that merge, in one order
  either : (e : Bool) (f g : ℕ) (a b : Entry) → MergeEither w f g → Stands w (set_of w f) a → Stands w (set_of w g) b → Same a b → DoneW e a b
  either e f g a b (inl z) p q same = forth (merged (z e a b p q same))
  either e f g a b (inr z) p q same = back (merged (z e b a q p (sym same)))

  own_from : (x : Bool) (f g : ℕ) (a b : Entry) → FollowedUp w M x f g
      → Contains (own_of w (set_of w f)) a → Contains (own_of w (set_of w g)) b → Same a b → DoneW x a b
  own_from x f g a b (inl (inl z)) p q same = forth (z.0 a b p q same)
  own_from x f g a b (inl (inr z)) p q same = back (z.0 b a q p (sym same))
  own_from x f g a b (inr z) p q same = either x f g a b z (own p) (own q) same

  closed_own : (e : Bool) (f g : ℕ) (a b : Entry) → K e f g → Contains (own_of w (set_of w f)) a → Contains (own_of w (set_of w g)) b → Same a b → DoneW e a b
  closed_own e f g a b c p q same = let z = at_pair e f g c in at_flag z.1 (own_from z.0 f g a b z.2 p q same)

  right_from : (x e : Bool) (f g h : ℕ) → (x ≡ e) ⊎ (x ≡ false) → FollowedUp w M x f g → Contains (spreads_of w (set_of w g)) h → Pair M e f h ⊎ MergeEither w f g
  right_from x e f g h l (inl (inl z)) v = inl (pair_at x e f h l (All-contains (λ k. Pair M x f k) (spreads_of w (set_of w g)) h z.1 v))
  right_from x e f g h l (inl (inr z)) v = inl (pair_at x e f h l (flip_pair M x h f (All-contains (λ k. Pair M x k f) (spreads_of w (set_of w g)) h z.2 v)))
  right_from x e f g h l (inr z) v = inr z

  closed_right : (e : Bool) (f g h : ℕ) → K e f g → Contains (spreads_of w (set_of w g)) h → Pair M e f h ⊎ MergeEither w f g
  closed_right e f g h c v = let z = at_pair e f g c in right_from z.0 e f g h z.1 z.2 v

  left_from : (x e : Bool) (f g h : ℕ) → (x ≡ e) ⊎ (x ≡ false) → FollowedUp w M x f g → Contains (spreads_of w (set_of w f)) h → Pair M e h g ⊎ MergeEither w f g
  left_from x e f g h l (inl (inl z)) v = inl (pair_at x e h g l (All-contains (λ k. Pair M x k g) (spreads_of w (set_of w f)) h z.2 v))
  left_from x e f g h l (inl (inr z)) v = inl (pair_at x e h g l (flip_pair M x g h (All-contains (λ k. Pair M x g k) (spreads_of w (set_of w f)) h z.1 v)))
  left_from x e f g h l (inr z) v = inr z

  closed_left : (e : Bool) (f g h : ℕ) → K e f g → Contains (spreads_of w (set_of w f)) h → Pair M e h g ⊎ MergeEither w f g
  closed_left e f g h c v = let z = at_pair e f g c in left_from z.0 e f g h z.1 z.2 v

  -- a search that was asked for met everything that stands there
  searched_own : (e : Bool) (s g : ℕ) (c d : Entry) → Searched M e s g → Contains (own_of w s) c → Contains (own_of w (set_of w g)) d → Same c d → DoneW e c d
  searched_own e s g c d k p q same = let z = closed.searches_closed k.0 s g k.2 in at_flag k.1 (forth (z.0 c d p q same))

  searched_next : (e : Bool) (s g h : ℕ) → Searched M e s g → Contains (spreads_of w (set_of w g)) h → Searched M e s h
  searched_next e s g h k v =
      let z = closed.searches_closed k.0 s g k.2 in searched_at k.0 e s h k.1 (All-contains (λ i. Searched M k.0 s i) (spreads_of w (set_of w g)) h z.1 v)

  searched_in : (e : Bool) (s g t : ℕ) (c d : Entry) → t ≡ set_of w g → Searched M e s g → Contains (own_of w s) c → Stands w t d → Same c d → DoneW e c d
  searched_in e s g t c d is k p (own q) same = searched_own e s g c d k p (subst (λ u. Contains (own_of w u) d) is q) same
  searched_in e s g t c d is k p (spread {f = h} v q) same =
      searched_in e s h (set_of w h) c d refl (searched_next e s g h k (subst (λ u. Contains (spreads_of w u) h) is v)) p q same

  searched : (e : Bool) (s g : ℕ) (c d : Entry) → Searched M e s g → Contains (own_of w s) c → Stands w (set_of w g) d → Same c d → DoneW e c d
  searched e s g c d k p q same = searched_in e s g (set_of w g) c d refl k p q same

  -- a set without fields has none to compare
  search_done : (e : Bool) (s g : ℕ) (c d : Entry) → SearchDone w M e s g → Contains (own_of w s) c → Stands w (set_of w g) d → Same c d → DoneW e c d
  search_done e s g c d (inl empty) p q same = absurd (omega (arith, p.1, ap length empty))
  search_done e s g c d (inr k) p q same = searched e s g c d k p q same

  top_own : (s : ℕ) (a b : Entry) → Contains order s → Contains (own_of w s) a → Contains (own_of w s) b → Same a b → (a ≡ b) ⊎ DoneW false a b
  top_own s a b o p q same = elim (cases_order p.0 q.0) [
    | inl eq ↦ inl (same_some a b (slice_get (own_of w s) p.0) (place_of (own_of w s) a p) (subst (λ k. slice_get (own_of w s) k ≡ Some b) (sym eq) (place_of (own_of w s) b q)))
    | inr lt ↦ elim lt [
      | inl l ↦ inr (forth ((top s o).0 p.0 q.0 a b l (place_of (own_of w s) a p) (place_of (own_of w s) b q) same))
      | inr l ↦ inr (back ((top s o).0 q.0 p.0 b a l (place_of (own_of w s) b q) (place_of (own_of w s) a p) (sym same)))
    ]
  ]

  top_frag : (s f : ℕ) (a b : Entry) → Contains order s → Contains (own_of w s) a → Contains (spreads_of w s) f → Stands w (set_of w f) b → Same a b → DoneW false a b
  top_frag s f a b o p v q same = forth (All-contains (λ h. (c d : Entry) → Contains (own_of w s) c → Stands w (set_of w h) d → Same c d → Done w M false c d) (spreads_of w s) f (top s o).1 v a b p q same)

  top_pairs : (s f g : ℕ) → Contains order s → Contains (spreads_of w s) f → Contains (spreads_of w s) g → Pair M false f g
  top_pairs s f g o p q = elim (cases_order p.0 q.0) [
    | inl eq ↦ inl (same_some f g (slice_get (spreads_of w s) p.0) (place_of (spreads_of w s) f p) (subst (λ k. slice_get (spreads_of w s) k ≡ Some g) (sym eq) (place_of (spreads_of w s) g q)))
    | inr lt ↦ elim lt [
      | inl l ↦ (top s o).2 p.0 q.0 f g l (place_of (spreads_of w s) f p) (place_of (spreads_of w s) g q)
      | inr l ↦ flip_pair M false g f ((top s o).2 q.0 p.0 g f l (place_of (spreads_of w s) g q) (place_of (spreads_of w s) f p))
    ]
  ]

  -- a covered pair of fragments: the fields are compared, or both stand in a common fragment
  pub data Meet : Bool → ℕ → Entry → Entry → Type 0 where
    done : {e : Bool} {n : ℕ} {a b : Entry} → DoneW e a b → Meet e n a b
    common : {e : Bool} {n : ℕ} {a b : Entry} (h : ℕ) → Contains order h → h < suc n → Stands w h a → Stands w h b → Meet e n a b

  meet_own : {e : Bool} {t : ℕ} {a b : Entry} (f g : ℕ) → Contains order (set_of w f) → t ≡ set_of w g → K e f g → Contains (own_of w (set_of w f)) a → Stands w t b → Same a b → Meet e (set_of w f) a b
  meet_own {e} {t} {a} {b} f g o is k p (own q) same = done (closed_own e f g a b k p (subst (λ u. Contains (own_of w u) b) is q) same)
  meet_own {e} {t} {a} {b} f g o is k p (spread {f = h} v q) same =
      elim (closed_right e f g h k (subst (λ u. Contains (spreads_of w u) h) is v)) [
        | inl (inl eq) ↦ common (set_of w f) o (omega arith) (own p) (subst (λ x. Stands w (set_of w x) b) (sym eq) q)
        | inl (inr k') ↦ meet_own f h o refl k' p q same
        | inr one ↦ done (either e f g a b one (own p) (subst (λ u. Stands w u b) is (spread v q)) same)
      ]

  raise : {e : Bool} {m n : ℕ} {a b : Entry} → m < n → Meet e m a b → Meet e n a b
  raise l (done d) = done d
  raise {m = m} {n = n} l (common h o r p q) = common h o (omega (arith, l, r)) p q

  meet_in : {e : Bool} {s : ℕ} {a b : Entry} (f g : ℕ) → Contains order (set_of w f) → s ≡ set_of w f → K e f g → Stands w s a → Stands w (set_of w g) b → Same a b → Meet e s a b
  meet_in {e} {s} {a} {b} f g o is k (own p) q same =
      subst (λ u. Meet e u a b) (sym is) (meet_own f g o refl k (subst (λ u. Contains (own_of w u) a) is p) q same)
  meet_in {e} {s} {a} {b} f g o is k (spread {f = h} v p) q same =
      elim (closed_left e f g h k (subst (λ u. Contains (spreads_of w u) h) is v)) [
        | inl (inl eq) ↦ common (set_of w h) (in_order s h v) (omega (arith, falls s h v)) p (subst (λ x. Stands w (set_of w x) b) (sym eq) q)
        | inl (inr k') ↦ raise (falls s h v) (meet_in h g (in_order s h v) refl k' p q same)
        | inr one ↦ done (either e f g a b one (subst (λ u. Stands w u a) is (spread v p)) q same)
      ]

  meet : {e : Bool} {a b : Entry} (f g : ℕ) → Contains order (set_of w f) → K e f g → Stands w (set_of w f) a → Stands w (set_of w g) b → Same a b → Meet e (set_of w f) a b
  meet f g o k p q same = meet_in f g o refl k p q same

  -- two fields of one written-out set are one field or compared without the flag
  pub within : (n : ℕ) {s : ℕ} {a b : Entry} → s < n → Contains order s → Stands w s a → Stands w s b → Same a b → (a ≡ b) ⊎ DoneW false a b
  within zero l o p q same = absurd (omega (arith, l))
  within (suc n) {s} {a} {b} l o (own p) (own q) same = top_own s a b o p q same
  within (suc n) {s} {a} {b} l o (own p) (spread {f = u} v q) same = inr (top_frag s u a b o p v q same)
  within (suc n) {s} {a} {b} l o (spread {f = u} v p) (own q) same = inr (flip (top_frag s u b a o q v p (sym same)))
  within (suc n) {s} {a} {b} l o (spread {f = u} v p) (spread {f = z} x q) same =
      elim (top_pairs s u z o v x) [
        | inl eq ↦ within n (omega (arith, l, falls s u v)) (in_order s u v) p (subst (λ y. Stands w (set_of w y) b) (sym eq) q) same
        | inr k ↦ elim (meet u z (in_order s u v) k p q same) [
          | done d ↦ inr d
          | common h i r hp hq ↦ within n (omega (arith, l, r, falls s u v)) i hp hq same
        ]
      ]

  weaken : {x : Bool} {c d : Entry} → (c ≡ d) ⊎ DoneW false c d → (c ≡ d) ⊎ DoneW x c d
  weaken (inl eq) = inl eq
  weaken (inr d) = inr (weak d)

  -- below a compared pair every pair of one response name is one field or compared
  pub nested : {x : Bool} {s t : ℕ} {c d : Entry} → OwnPairs w M x s t → Asked w M x s t → Stands w s c → Stands w t d → Same c d → (c ≡ d) ⊎ DoneW x c d
  nested {c = c} {d = d} oo asked (own p) (own q) same = inr (forth (oo c d p q same))
  nested {x} {s} {t} {c} {d} oo asked (own p) (spread {f = u} v q) same =
      inr (search_done x s u c d (All-contains (λ h. SearchDone w M x s h) (spreads_of w t) u asked.0 v) p q same)
  nested {x} {s} {t} {c} {d} oo asked (spread {f = u} v p) (own q) same =
      inr (flip (search_done x t u d c (All-contains (λ h. SearchDone w M x t h) (spreads_of w s) u asked.1 v) q p (sym same)))
  nested {x} {s} {t} {c} {d} oo asked (spread {f = u} v p) (spread {f = z} y q) same =
      elim (All-contains (λ h. Pair M x u h) (spreads_of w t) z (All-contains (λ g. All (λ h. Pair M x g h) (spreads_of w t)) (spreads_of w s) u asked.2 v) y) [
        | inl eq ↦ weaken (within (suc (set_of w u)) (omega arith) (in_order s u v) p (subst (λ i. Stands w (set_of w i) d) (sym eq) q) same)
        | inr k ↦ elim (meet u z (in_order s u v) k p q same) [
          | done f ↦ inr f
          | common h i r hp hq ↦ weaken (within (suc h) (omega arith) i hp hq same)
        ]
      ]

  flip_good : {a b : Entry} → Good M.found.items a b → Good M.found.items b a
  flip_good (inl r) = inr r
  flip_good (inr r) = inl r

  pub data Opened (e : Bool) (a b : Entry) : Type 0 where
    good : Good M.found.items a b → Opened e a b
    pass : (e' : Bool) → Le e' e → conflict_of w e' a b ≡ false
        → ((c d : Entry) → Below w a b c d → (c ≡ d) ⊎ DoneW (exclusive_of w e' a b) c d) → Opened e a b

  none_below : {a b c d : Entry} → (a.below ≡ None) ⊎ (b.below ≡ None) → Below w a b c d → ⊥
  none_below {a = a} (inl n) (below {s = s} sa tb p q same) = clash_some s a.below sa n
  none_below {b = b} (inr n) (below {t = t} sa tb p q same) = clash_some t b.below tb n

  at_sets : {x : Bool} {a b c d : Entry} {s t : ℕ} → a.below ≡ Some s → b.below ≡ Some t → OwnPairs w M x s t → Asked w M x s t
      → Below w a b c d → (c ≡ d) ⊎ DoneW x c d
  at_sets {x} {a} {b} {c} {d} {s} {t} sa tb oo asked (below {s = s'} {t = t'} sa' tb' p q same) =
      nested oo asked (subst (λ y. Stands w y c) (same_some s' s a.below sa' sa) p) (subst (λ y. Stands w y d) (same_some t' t b.below tb' tb) q) same

  open_one : {e : Bool} {a b : Entry} → Done w M e a b → Opened e a b
  open_one {e} (stood h r) = good (inl (e, r))
  open_one {e} (shallow n none) = pass e even n (λ c d f. absurd (none_below none f))
  open_one {e} (deep n sa tb oo asked) = pass e even n (λ c d f. at_sets sa tb oo asked f)
  open_one {e} (merged (merges n next)) = pass e even n (λ c d f. inr (forth (merged (next c d f))))

  flip_below : {a b c d : Entry} → Below w a b c d → Below w b a d c
  flip_below (below sa tb p q same) = below tb sa q p (sym same)

  flip_next : {x y : Bool} {c d : Entry} → y ≡ x → (d ≡ c) ⊎ DoneW y d c → (c ≡ d) ⊎ DoneW x c d
  flip_next eq (inl same) = inl (sym same)
  flip_next {c = c} {d = d} eq (inr f) = inr (subst (λ z. DoneW z c d) eq (flip f))

  below_self : IsWhole w.sets order → {a b c d : Entry} → Below w a b c d → a ≡ b → (c ≡ d) ⊎ DoneW false c d
  below_self whole {a} {b} {c} {d} (below {s = s} {t = t} sa tb p q same) eq =
      within (suc s) (omega arith) (whole s (is_there w s c p)) p
      (subst (λ y. Stands w y d) (same_some t s a.below (subst (λ y. y.below ≡ Some t) (sym eq) tb) sa) q) same

  height_stands : {s : ℕ} {a : Entry} → Stands w s a → height a ≤ s
  height_stands {s} {a} (own p) = All-contains (λ x. height x ≤ s) (own_of w s) a (falling s).0 p
  height_stands {s} {a} (spread {f = f} v p) = omega (arith, falls s f v, height_stands p)

  lower : (a b c d : Entry) → Below w a b c d → height c < height a
  lower a b c d (below {s = s} sa tb p q same) = subst (λ o. height c < Rattle.std.specs.Option.option_map_or (λ x. suc x) o 0) (sym sa) (omega (arith, height_stands p))

  module _ (laws : Lawful w.judgement) where
    open_back : {e : Bool} {a b : Entry} → Opened e b a → Opened e a b
    open_back (good g) = good (flip_good g)
    open_back {e} {a} {b} (pass e' le n next) = pass e' le (conflict_flip w laws e' a b n)
        (λ c d f. flip_next (exclusive_flip w laws e' a b) (next d c (flip_below f)))

    open_weak : {e : Bool} {a b : Entry} → Opened false a b → Opened e a b
    open_weak (good g) = good g
    open_weak (pass e' le n next) = pass e' (up le) n next

    opened : {e : Bool} {a b : Entry} → DoneW e a b → Opened e a b
    opened (forth d) = open_one d
    opened (back d) = open_back (open_one d)
    opened (weak d) = open_weak (opened d)

    exact_one : {e : Bool} {a b : Entry} → e ≡ false → Done w M e a b
        → ((conflict_of w false a b ≡ true) × Contains M.found.items (Direct a b false)) ⊎ (conflict_of w false a b ≡ false)
    exact_one {a = a} {b = b} eq (stood h r) = inl (subst (λ x. conflict_of w x a b ≡ true) eq h, subst (λ x. Contains M.found.items (Direct a b x)) eq r)
    exact_one {a = a} {b = b} eq (shallow n none) = inr (subst (λ x. conflict_of w x a b ≡ false) eq n)
    exact_one {a = a} {b = b} eq (deep n sa tb oo asked) = inr (subst (λ x. conflict_of w x a b ≡ false) eq n)
    exact_one {a = a} {b = b} eq (merged (merges n next)) = inr (subst (λ x. conflict_of w x a b ≡ false) eq n)

    exact_pair : {e : Bool} {a b : Entry} → e ≡ false → DoneW e a b → Told w M.found.items a b ⊎ (conflict_of w false a b ≡ false)
    exact_pair eq (forth d) = elim (exact_one eq d) [ inl r ↦ inl (inl r) | inr n ↦ inr n ]
    exact_pair {a = a} {b = b} eq (back d) = elim (exact_one eq d) [ inl r ↦ inl (inr r) | inr n ↦ inr (conflict_flip w laws false a b n) ]
    exact_pair eq (weak d) = exact_pair refl d

    pub failing : {s : ℕ} {a b : Entry} → Contains order s → Stands w s a → Stands w s b → Same a b → conflict_of w false a b ≡ true → Told w M.found.items a b
    failing {s} {a} {b} o p q same h = elim (within (suc s) (omega arith) o p q same) [
      | inl eq ↦ absurd (clash (conflict_of w false a b) h (subst (λ y. conflict_of w false a y ≡ false) eq (conflict_self w laws false a)))
      | inr d ↦ elim (exact_pair refl d) [
        | inl x ↦ x
        | inr n ↦ absurd (clash (conflict_of w false a b) h n)
      ]
    ]

    module _ (whole : IsWhole w.sets order) where
      mutual
        pub way_passes : {e e' : Bool} {a b : Entry} (v : Way w e a b) → Le e' e → DoneW e' a b → Passes M.found.items v
        way_passes {e} {e'} {a} {b} (here h) le d = elim (opened d) [
          | good g ↦ g
          | pass x le' n next ↦ absurd (clash (conflict_of w e a b) h (conflict_up w laws x e a b (both le' le) n))
        ]
        way_passes {e} {e'} {a} {b} (down {c = c} {d = d} f v) le dn = elim (opened dn) [
          | good g ↦ inl g
          | pass x le' n next ↦ inr (elim (next c d f) [
            | inl eq ↦ self_passes v eq
            | inr k ↦ way_passes v (exclusive_up w laws x e a b (both le' le)) k
          ])
        ]

        pub self_passes : {e : Bool} {a b : Entry} (v : Way w e a b) → a ≡ b → Passes M.found.items v
        self_passes {e} {a} {b} (here h) eq =
            absurd (clash (conflict_of w e a b) h (subst (λ y. conflict_of w e a y ≡ false) eq (conflict_self w laws e a)))
        self_passes {e} {a} {b} (down f v) eq = inr (elim (below_self whole f eq) [
          | inl eq' ↦ self_passes v eq'
          | inr k ↦ way_passes v least k
        ])

      pub ways : {s : ℕ} {a b : Entry} → Stands w s a → Stands w s b → Same a b → (v : Way w false a b) → Passes M.found.items v
      ways {s} {a = a} p q same v = elim (within (suc s) (omega arith) (whole s (is_there w s a p)) p q same) [
        | inl eq ↦ self_passes v eq
        | inr d ↦ way_passes v even d
      ]

      module _ (quiet : (a b : Entry) (e : Bool) → Contains M.found.items (Direct a b e) → ⊥) where
        no_good : {a b : Entry} → Good M.found.items a b → ⊥
        no_good {a} {b} (inl r) = quiet a b r.0 r.1
        no_good {a} {b} (inr r) = quiet b a r.0 r.1

        mutual
          pub done_merges : (n : ℕ) {e e' : Bool} {a b : Entry} → height a < n → Le e' e → DoneW e' a b → Merges w e a b
          done_merges zero l le d = absurd (omega (arith, l))
          done_merges (suc n) {e} {e'} {a} {b} l le d = elim (opened d) [
            | good g ↦ absurd (no_good g)
            | pass x le' none next ↦ merges (conflict_up w laws x e a b (both le' le) none) (λ c k f. elim (next c k f) [
              | inl eq ↦ self_merges n (omega (arith, l, lower a b c k f)) eq
              | inr dn ↦ done_merges n (omega (arith, l, lower a b c k f)) (exclusive_up w laws x e a b (both le' le)) dn
            ])
          ]

          pub self_merges : (n : ℕ) {e : Bool} {a b : Entry} → height a < n → a ≡ b → Merges w e a b
          self_merges zero l eq = absurd (omega (arith, l))
          self_merges (suc n) {e} {a} {b} l eq = merges (subst (λ y. conflict_of w e a y ≡ false) eq (conflict_self w laws e a)) (λ c k f.
              elim (below_self whole f eq) [
                | inl eq' ↦ self_merges n (omega (arith, l, lower a b c k f)) eq'
                | inr dn ↦ done_merges n (omega (arith, l, lower a b c k f)) least dn
              ])

        pub set_merges : {s : ℕ} {a b : Entry} → Stands w s a → Stands w s b → Same a b → Merges w false a b
        set_merges {s} {a} p q same = elim (within (suc s) (omega arith) (whole s (is_there w s a p)) p q same) [
          | inl eq ↦ self_merges (suc (height a)) (omega arith) eq
          | inr d ↦ done_merges (suc (height a)) (omega arith) even d
        ]
