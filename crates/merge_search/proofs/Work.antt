-- How pieces of work join.
use Rattle.std.proofs.Common.{◌≡◌, ap, ◌∙◌, length-append, ℕ, ◌+◌, ◌<◌, ◌≤◌, List, [], ◌∷◌, length, take, get_or, refl, sym, subst, arith, Bool, true, false, inl, inr, ◌⊎◌, min, max, ◌||◌, ◌&&◌, below_more}
use Rattle.std.specs.List.{All, Contains}
use Rattle.std.proofs.lemmas.List.{take_all, length-take}
use Rattle.std.proofs.lemmas.List.Elements.{All-contains, All-more, All-weaker, Contains-push, Contains-append_left}
use Rattle.merge_search.specs.declared.state.Search.{Search}
use Rattle.merge_sets.specs.declared.finding.Finding.{Finding}
use Rattle.merge_sets.specs.World.{World, HasRoom, spreads_of, set_of}
use Rattle.merge_search.specs.Log.{in_log, covers_of, Covers}
use Rattle.merge_search.specs.Work.{pair_in, search_in, Searched, Pair, OwnPairs, ClosedSearch, ClosedPair, Grows, Did}
use Rattle.merge_search.specs.Opened.{OpensCounted}
use Rattle.merge_sets.specs.Merging.{MergeEither}
use Rattle.merge_search.specs.State.{NotesBelow, NotesPair, Reports, Keeps}
use Rattle.merge_search.proofs.Tallying.{tally_same, tally_pair, tally_opened}
use Rattle.merge_search.proofs.TallyingBelow.{tally_below}

pub grows_same : (s : Search) → Grows s s
grows_same s = record { more_pairs = λ x f g h. h; more_searched = λ x i g h. h; more_found = λ y h. h; longer = omega arith }

pub grows_then : {a b c : Search} → Grows a b → Grows b c → Grows a c
grows_then g h = record {
  more_pairs = λ x i j z. h.more_pairs x i j (g.more_pairs x i j z);
  more_searched = λ x i j z. h.more_searched x i j (g.more_searched x i j z);
  more_found = λ y z. h.more_found y (g.more_found y z);
  longer = omega (arith, g.longer, h.longer);
}

pair_from : (s t : Search) → t.pairs ≡ s.pairs → (x : Bool) (f g : ℕ) → pair_in s x f g ≡ true → pair_in t x f g ≡ true
pair_from s t ps x f g h = subst (λ l. in_log l x (max f g) (min f g) ≡ true) (sym ps) h

pair_back : (s t : Search) → t.pairs ≡ s.pairs → (x : Bool) (f g : ℕ) → pair_in t x f g ≡ true → pair_in s x f g ≡ true
pair_back s t ps x f g h = subst (λ l. in_log l x (max f g) (min f g) ≡ true) ps h

search_from : (s t : Search) → t.searched ≡ s.searched → (x : Bool) (i g : ℕ) → search_in s x i g ≡ true → search_in t x i g ≡ true
search_from s t ps x i g h = subst (λ l. in_log l x i g ≡ true) (sym ps) h

search_back : (s t : Search) → t.searched ≡ s.searched → (x : Bool) (i g : ℕ) → search_in t x i g ≡ true → search_in s x i g ≡ true
search_back s t ps x i g h = subst (λ l. in_log l x i g ≡ true) ps h

pub covers_yes : (asked : Bool → ℕ → ℕ → Bool) (e : Bool) (f g : ℕ) → covers_of asked e f g ≡ true → Covers asked e f g
covers_yes asked e f g h = covered e (asked false f g) (asked true f g) h (λ z. (false, inr refl, z)) (λ is z. (true, inl (sym is), z))
  where
    covered : (e a b : Bool) → (a || (e && b)) ≡ true → {X : Type 0} → (a ≡ true → X) → (e ≡ true → b ≡ true → X) → X
    covered e true b h p q = p refl
    covered true false true h p q = q refl refl
    covered true false false h p q = cc
    covered false false b h p q = cc

clash_left : (a b : Bool) → (a || b) ≡ false → a ≡ true → ⊥
clash_left true b h z = cc
clash_left false b h z = cc

clash_right : (a b : Bool) → (a || b) ≡ false → b ≡ true → ⊥
clash_right true b h z = cc
clash_right false true h z = cc
clash_right false false h z = cc

pub covers_no : (asked : Bool → ℕ → ℕ → Bool) (e : Bool) (f g : ℕ) → covers_of asked e f g ≡ false → asked e f g ≡ true → ⊥
covers_no asked true f g h z = clash_right (asked false f g) (asked true f g) h z
covers_no asked false f g h z = clash_left (asked false f g) false h z

module _ (w : World) where
  pub did_none : (P : Search → Type 0) (s : Search) → ((M : Search) → Grows s M → P M) → Did w P s s
  did_none P s f = record { grows = grows_same s; holds = λ M g r. f M g; closes = λ M g r c. c; keeps = λ h. h }

  room_before : {s M : Search} → Grows s M → HasRoom w M.found.items → HasRoom w s.found.items
  room_before g (inl all) = inl all
  room_before g (inr less) = inr (omega (arith, less, g.longer))

  -- no later state has room for more
  pub did_full : (P : Search → Type 0) (s : Search) → (HasRoom w s.found.items → ⊥) → Did w P s s
  did_full P s full = record { grows = grows_same s; holds = λ M g r. absurd (full (room_before g r)); closes = λ M g r c. c; keeps = λ h. h }

  pub did_start : {A : Type 0} (P : A → Search → Type 0) (xs : List A) (s : Search) → Did w (λ M. All (λ x. P x M) (take 0 xs)) s s
  did_start P xs s = did_none _ s (λ M g i d l. absurd (omega (arith, length-take 0 xs, l)))

  pub did_then : (P Q : Search → Type 0) {s t u : Search} → Did w P s t → Did w Q t u → Did w (λ M. P M × Q M) s u
  did_then P Q d e = record {
    grows = grows_then d.grows e.grows;
    holds = λ M g r. (d.holds M (grows_then e.grows g) r, e.holds M g r);
    closes = λ M g r c. e.closes M g r (d.closes M (grows_then e.grows g) r c);
    keeps = λ h. e.keeps (d.keeps h);
  }

  pub did_map : (P Q : Search → Type 0) {s t : Search} → ((M : Search) → P M → Q M) → Did w P s t → Did w Q s t
  did_map P Q f d = record { grows = d.grows; holds = λ M g r. f M (d.holds M g r); closes = d.closes; keeps = d.keeps }

  pub did_more : {A : Type 0} (P : A → Search → Type 0) (xs : List A) (k : ℕ) (d : A) {s t u : Search} → k < length xs
      → Did w (λ M. All (λ x. P x M) (take k xs)) s t → Did w (P (get_or xs k d)) t u
      → Did w (λ M. All (λ x. P x M) (take (k + 1) xs)) s u
  did_more P xs k d l v z = did_map _ _ (λ M h. All-more (λ x. P x M) xs k d l h.0 h.1) (did_then _ _ v z)

  pub did_all : {A : Type 0} (P : A → Search → Type 0) (xs ys : List A) (k : ℕ) {s t : Search} → length xs ≤ k → xs ≡ ys
      → Did w (λ M. All (λ x. P x M) (take k xs)) s t → Did w (λ M. All (λ x. P x M) ys) s t
  did_all P xs ys k l eq d = did_map _ _ (λ M h. subst (λ zs. All (λ x. P x M) zs) eq (subst (λ zs. All (λ x. P x M) zs) (take_all k xs l) h)) d

  closed_search : (M : Search) (e x : Bool) (i g j h : ℕ) → (x ≡ e) × (j ≡ i) × (h ≡ g) → ClosedSearch w M e i g → ClosedSearch w M x j h
  closed_search M e x i g j h is z = subst (λ (y : Bool). ClosedSearch w M y j h) (sym is.0)
      (subst (λ (k : ℕ). ClosedSearch w M e k h) (sym is.1) (subst (λ (k : ℕ). ClosedSearch w M e i k) (sym is.2) z))

  closed_pair : (M : Search) (e x : Bool) (f g i j : ℕ) → (x ≡ e) × (((i ≡ f) × (j ≡ g)) ⊎ ((i ≡ g) × (j ≡ f))) → ClosedPair w M e f g → ClosedPair w M x i j ⊎ ClosedPair w M x j i
  closed_pair M e x f g i j (is, inl p) z = inl (subst (λ (y : Bool). ClosedPair w M y i j) (sym is)
      (subst (λ (k : ℕ). ClosedPair w M e k j) (sym p.0) (subst (λ (k : ℕ). ClosedPair w M e f k) (sym p.1) z)))
  closed_pair M e x f g i j (is, inr p) z = inr (subst (λ (y : Bool). ClosedPair w M y j i) (sym is)
      (subst (λ (k : ℕ). ClosedPair w M e k i) (sym p.1) (subst (λ (k : ℕ). ClosedPair w M e f k) (sym p.0) z)))

  -- a pair of fragments that was recorded first, and followed up
  pub did_fragments : (e : Bool) (f g : ℕ) {s t u : Search} → NotesPair f g e s t → (f ≡ g → ⊥) → f < length w.fragments → g < length w.fragments
      → (pair_in s e f g ≡ true → ⊥) → Did w (λ M. ClosedPair w M e f g) t u → Did w (λ M. Pair M e f g) s u
  did_fragments e f g {s} {t} {u} n ne lf lg fresh d =
      let up : Grows s t = record { more_pairs = n.notes.kept; more_searched = search_from s t n.searched; more_found = λ y h. subst (λ zs. Contains zs y) (sym n.found) h; longer = omega (arith, ap length n.found) } in
      record {
        keeps = λ h. d.keeps (tally_pair n ne lf lg fresh h);
        grows = grows_then up d.grows;
        holds = λ M k r. inr (e, inl refl, k.more_pairs e f g (d.grows.more_pairs e f g n.notes.noted));
        closes = λ M k r c. d.closes M k r record {
          searches_closed = λ x i h z. c.searches_closed x i h (search_back s t n.searched x i h z);
          pairs_closed = λ x i j z. elim (n.notes.only x i j z) [ inl old ↦ c.pairs_closed x i j old | inr is ↦ inl (closed_pair M e x f g i j is (d.holds M k r)) ];
        };
      }

  same_two : (e x : Bool) (f g i j : ℕ) → (x ≡ e) × (((i ≡ f) × (j ≡ g)) ⊎ ((i ≡ g) × (j ≡ f))) → MergeEither w f g → MergeEither w i j
  same_two e x f g i j (is, inl p) z = subst (λ (k : ℕ). MergeEither w k j) (sym p.0) (subst (λ (k : ℕ). MergeEither w f k) (sym p.1) z)
  same_two e x f g i j (is, inr p) z =
      subst (λ (k : ℕ). MergeEither w k j) (sym p.0) (subst (λ (k : ℕ). MergeEither w g k) (sym p.1) (elim z [ inl forth ↦ inr forth | inr back ↦ inl back ]))

  -- a pair of fragments was recorded that is known to merge
  pub did_passed : (f g : ℕ) {s t : Search} → NotesPair f g false s t → (f ≡ g → ⊥) → f < length w.fragments → g < length w.fragments
      → (pair_in s false f g ≡ true → ⊥) → MergeEither w f g → Did w (λ M. Pair M false f g) s t
  did_passed f g {s} {t} n ne lf lg fresh one = record {
    keeps = tally_pair n ne lf lg fresh;
    grows = record { more_pairs = n.notes.kept; more_searched = search_from s t n.searched; more_found = λ y h. subst (λ zs. Contains zs y) (sym n.found) h; longer = omega (arith, ap length n.found) };
    holds = λ M k r. inr (false, inl refl, k.more_pairs false f g n.notes.noted);
    closes = λ M k r c. record {
      searches_closed = λ x i h z. c.searches_closed x i h (search_back s t n.searched x i h z);
      pairs_closed = λ x i j z. elim (n.notes.only x i j z) [ inl old ↦ c.pairs_closed x i j old | inr is ↦ inr (same_two false x f g i j is one) ];
    };
  }

  -- a fragment was recorded with some of smaller numbers, with which it is known to merge
  pub did_below : (f : ℕ) (among : ℕ → Bool) {s t : Search} → NotesBelow f among s t → f < length w.fragments
      → ((i j : ℕ) → max i j ≡ f → among (min i j) ≡ true → MergeEither w i j)
      → Did w (λ M. (g : ℕ) → among g ≡ true → g < f → Pair M false f g) s t
  did_below f among {s} {t} n lf merge = record {
    keeps = tally_below f among n lf;
    grows = record { more_pairs = n.kept; more_searched = search_from s t n.searched; more_found = λ y h. subst (λ zs. Contains zs y) (sym n.found) h; longer = omega (arith, ap length n.found) };
    holds = λ M k r g there less. inr (false, inl refl, k.more_pairs false f g (n.noted g there less));
    closes = λ M k r c. record {
      searches_closed = λ x i h z. c.searches_closed x i h (search_back s t n.searched x i h z);
      pairs_closed = λ x i j z. elim (n.only x i j z) [ inl old ↦ c.pairs_closed x i j old | inr is ↦ inr (merge i j is.1 is.3) ];
    };
  }

  -- something was reported, after other work
  pub did_report : (P : Search → Type 0) (y : Finding) {s t u : Search} → Reports y t u → Did w P s t → Did w (λ M. P M × Contains M.found.items y) s u
  did_report P y {s} {t} {u} n d =
      let up : Grows t u = record {
        more_pairs = pair_from t u n.pairs;
        more_searched = search_from t u n.searched;
        more_found = λ z h. subst (λ zs. Contains zs z) (sym n.found) (Contains-append_left t.found.items (y ∷ []) z h);
        longer = omega (arith, ap length n.found ∙ length-append t.found.items (y ∷ []));
      } in
      record {
        keeps = λ h. tally_same w t u n.searched n.repeated n.opened n.pairs n.compared n.lists n.looked (d.keeps h);
        grows = grows_then d.grows up;
        holds = λ M k r. (d.holds M (grows_then up k) r, k.more_found y (subst (λ zs. Contains zs y) (sym n.found) (Contains-push t.found.items y)));
        closes = λ M k r c. let had = d.closes M (grows_then up k) r c in record {
          searches_closed = λ x i h z. had.searches_closed x i h (search_back t u n.searched x i h z);
          pairs_closed = λ x i j z. had.pairs_closed x i j (pair_back t u n.pairs x i j z);
        };
      }

  -- nothing that is spoken of changed, after other work
  pub did_kept : (P : Search → Type 0) {s t u : Search} → Keeps t u → Did w P s t → Did w P s u
  did_kept P {s} {t} {u} n d =
      let up : Grows t u = record { more_pairs = pair_from t u n.pairs; more_searched = search_from t u n.searched; more_found = λ z h. subst (λ zs. Contains zs z) (sym n.found) h; longer = omega (arith, ap length n.found) } in
      record {
        keeps = λ h. tally_same w t u n.searched n.repeated n.opened n.pairs n.compared n.lists n.looked (d.keeps h);
        grows = grows_then d.grows up;
        holds = λ M k r. d.holds M (grows_then up k) r;
        closes = λ M k r c. let had = d.closes M (grows_then up k) r c in record {
          searches_closed = λ x i h z. had.searches_closed x i h (search_back t u n.searched x i h z);
          pairs_closed = λ x i j z. had.pairs_closed x i j (pair_back t u n.pairs x i j z);
        };
      }

  -- the fragments that a search opened were noted first, counted, and compared with the set
  pub did_opened : (e : Bool) (i g : ℕ) (hs : List ℕ) {s u v : Search} → OpensCounted w e i g hs s u → Did w (λ M. All (λ h. OwnPairs w M e i (set_of w h)) hs) u v
      → Did w (λ M. Searched M e i g) s v
  did_opened e i g hs {s} {u} {v} o d =
      let t : Search = o.mid in
      let a = o.opens.asks in
      let c = o.counts in
      let searched : (x : Bool) (j h : ℕ) → search_in t x j h ≡ true → search_in u x j h ≡ true = search_from t u c.searched in
      let up : Grows s u = record {
        more_pairs = pair_from s u (c.pairs ∙ a.pairs);
        more_searched = λ x j h z. searched x j h (a.kept x j h z);
        more_found = λ y h. subst (λ zs. Contains zs y) (sym (c.found ∙ a.found)) h;
        longer = omega (arith, ap length c.found, ap length a.found);
      } in
      record {
        keeps = λ h. d.keeps (tally_opened o.opens c h);
        grows = grows_then up d.grows;
        holds = λ M k r. let z = o.opens.first in (z.0, z.1, k.more_searched z.0 i g (d.grows.more_searched z.0 i g (searched z.0 i g z.2)));
        closes = λ M k r old. d.closes M k r record {
          pairs_closed = λ x f h z. old.pairs_closed x f h (pair_back s u (c.pairs ∙ a.pairs) x f h z);
          searches_closed = λ x j h z. elim (a.only x j h (search_back t u c.searched x j h z)) [
            | inl was ↦ old.searches_closed x j h was
            | inr is ↦ closed_search M e x i h j h (is.0, is.1, refl) (
              All-contains (λ b. OwnPairs w M e i (set_of w b)) hs h (d.holds M k r) is.2,
              All-weaker (λ b. Searched t e i b) (λ b. Searched M e i b) (λ b y. (y.0, y.1, k.more_searched y.0 i b (d.grows.more_searched y.0 i b (searched y.0 i b y.2))))
                  (spreads_of w (set_of w h)) (All-contains (λ b. All (λ n. Searched t e i n) (spreads_of w (set_of w b))) hs h o.opens.followed is.2),
            )
          ];
        };
      }

  pub did_next : (P : ℕ → Search → Type 0) (k : ℕ) {s t u : Search}
      → Did w (λ M. (i : ℕ) → i < k → P i M) s t → Did w (P k) t u → Did w (λ M. (i : ℕ) → i < k + 1 → P i M) s u
  did_next P k a b = did_map _ _ (λ M h. below_more (λ i. P i M) k h.0 h.1) (did_then _ _ a b)
