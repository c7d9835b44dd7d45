-- How the fragments of a search below a field are opened and noted.
use Rattle.std.proofs.Common.{◌≡◌, ◌⊎◌, ◌+◌, ◌*◌, ◌-◌, ◌<◌, ◌≤◌, ◌∙◌, ◌++◌, ◌∷◌, [], ℕ, Bool, true, false, List, inl, inr, ap, arith, get_or, length, refl, subst, sym, take, length-append}
use Rattle.std.specs.Prelude.{sum_by}
use Rattle.std.specs.List.{All, Contains}
use Rattle.std.proofs.lemmas.List.{append-nil, append_assoc, take_more}
use Rattle.std.proofs.lemmas.List.Elements.{All-append, All-cons, All-contains, All-nil, All-weaker, Contains-append_cases, Contains-append_left, Contains-append_right, Contains-get_or, Contains-push, Contains-push_cases}
use Rattle.std.proofs.lemmas.List.Sums.{sum_by-append, sum_by-cons}
use Rattle.std.proofs.lemmas.Option.{slice_get_within}
use Rattle.bit_matrix.specs.Set.{has}
use Rattle.merge_sets.specs.declared.opening.Opening.{Opening}
use Rattle.merge_sets.specs.Graph.{Falling}
use Rattle.merge_sets.specs.Opening.{NoRepeats, Reaches, start, step}
use Rattle.merge_sets.specs.Sound.{Once}
use Rattle.merge_sets.specs.World.{World, set_of, spreads_of}
use Rattle.merge_search.specs.declared.state.Search.{Search}
use Rattle.merge_search.specs.Log.{covers_of}
use Rattle.merge_search.specs.Opened.{Asks, OpensBelow, OpensEach, OpensFrom, Pushes}
use Rattle.merge_search.specs.Spending.{MayAsk}
use Rattle.merge_search.specs.State.{CountsStay, Keeps, NotesSearch}
use Rattle.merge_search.specs.Weight.{fragment_weight, weight}
use Rattle.merge_search.specs.Work.{Searched, search_in}
use Rattle.merge_sets.proofs.Distinct.{few_below}
use Rattle.merge_sets.proofs.Laws.{clash}
use Rattle.merge_sets.proofs.Opened.{gains_new}
use Rattle.merge_search.proofs.Costs.{credit_same}
use Rattle.merge_search.proofs.Tallying.{asked_same}
use Rattle.merge_search.proofs.Work.{covers_yes}
use Rattle.merge_search.proofs.Worth.{search_counts, search_pays}

same_one : (x h : ℕ) → Contains (x ∷ []) h → h ≡ x
same_one x h c = elim (Contains-push_cases [] x h c) [ inl old ↦ absurd (omega (arith, old.1)) | inr is ↦ sym is ]

is_one : (x h : ℕ) → h ≡ x → Contains (x ∷ []) h
is_one x h is = subst (λ (y : ℕ). Contains (x ∷ []) y) (sym is) (Contains-push [] x)

module _ (w : World) (e : Bool) (i : ℕ) where
  searched_still : (s t : Search) (h : ℕ) → ((x : Bool) (j k : ℕ) → search_in s x j k ≡ true → search_in t x j k ≡ true) → Searched s e i h → Searched t e i h
  searched_still s t h kept z = (z.0, z.1, kept z.0 i h z.2)

  asks_none : (s : Search) → Asks w e i [] s s
  asks_none s = record {
    noted = All-nil (λ h. Searched s e i h);
    kept = λ x j h z. z;
    only = λ x j h z. inl z;
    pays = omega arith;
    counts = λ g. omega arith;
    pairs = refl;
    found = refl;
    compared = refl;
    opened = refl;
    looked = refl;
    lists = refl;
    judged = refl;
  }

  asks_one : (f : ℕ) (s t : Search) → i < length w.sets → f < length w.fragments → MayAsk w s e i f → NotesSearch i f e s t → Asks w e i (f ∷ []) s t
  asks_one f s t there known may n = record {
    noted = All-cons (λ h. Searched t e i h) f [] (e, inl refl, n.notes.noted) (All-nil (λ h. Searched t e i h));
    kept = n.notes.kept;
    only = λ x j h z. elim (n.notes.only x j h z) [ inl old ↦ inl old | inr is ↦ inr (is.0, is.1, is_one f h is.2) ];
    pays = omega (arith, search_pays w s t i f e n there known may, sum_by-cons (fragment_weight w) f []);
    counts = λ g. omega (arith, search_counts w s t i f e n there known may g, sum_by-cons g f []);
    pairs = n.pairs;
    found = n.found;
    compared = n.compared;
    opened = n.opened;
    looked = n.looked;
    lists = n.lists;
    judged = n.judged;
  }

  spread_out : (x y z : ℕ) → x * (y + z) ≡ x * y + x * z
  spread_out x y z = omega arith

  asks_then : (hs ks : List ℕ) (s t u : Search) → Asks w e i hs s t → Asks w e i ks t u → Asks w e i (hs ++ ks) s u
  asks_then hs ks s t u a b = record {
    noted = All-append (λ h. Searched u e i h) hs ks (All-weaker (λ h. Searched t e i h) (λ h. Searched u e i h) (λ h z. searched_still t u h b.kept z) hs a.noted) b.noted;
    kept = λ x j h z. b.kept x j h (a.kept x j h z);
    only = λ x j h z. elim (b.only x j h z) [
      | inl old ↦ elim (a.only x j h old) [ inl older ↦ inl older | inr is ↦ inr (is.0, is.1, Contains-append_left hs ks h is.2) ]
      | inr is ↦ inr (is.0, is.1, Contains-append_right hs ks h is.2)
    ];
    pays =
        let sum = ap (λ (n : ℕ). weight w i * n) (sum_by-append (fragment_weight w) hs ks) ∙ spread_out (weight w i) (sum_by (fragment_weight w) hs) (sum_by (fragment_weight w) ks) in
        omega (arith, a.pays, b.pays, sum);
    counts = λ g. omega (arith, a.counts g, b.counts g, sum_by-append g hs ks);
    pairs = b.pairs ∙ a.pairs;
    found = b.found ∙ a.found;
    compared = b.compared ∙ a.compared;
    opened = b.opened ∙ a.opened;
    looked = b.looked ∙ a.looked;
    lists = b.lists ∙ a.lists;
    judged = b.judged ∙ a.judged;
  }

  -- nothing that is spoken of changed before
  asks_kept : (hs : List ℕ) (s t u : Search) → Keeps s t → CountsStay s t → Asks w e i hs t u → Asks w e i hs s u
  asks_kept hs s t u k c a = record {
    noted = a.noted;
    kept = λ x j h z. a.kept x j h (subst (λ l. Rattle.merge_search.specs.Log.in_log l x j h ≡ true) (sym k.searched) z);
    only = λ x j h z. elim (a.only x j h z) [ inl old ↦ inl (subst (λ l. Rattle.merge_search.specs.Log.in_log l x j h ≡ true) k.searched old) | inr is ↦ inr is ];
    pays = omega (arith, a.pays, credit_same w s t k.pairs k.searched k.repeated);
    counts = λ g. omega (arith, a.counts g, asked_same w g s t k.searched k.repeated);
    pairs = a.pairs ∙ k.pairs;
    found = a.found ∙ k.found;
    compared = a.compared ∙ k.compared;
    opened = a.opened ∙ k.opened;
    looked = a.looked ∙ k.looked;
    lists = a.lists ∙ k.lists;
    judged = a.judged ∙ c.judged;
  }

  -- nothing is opened
  each_kept : (fs : List ℕ) (o : Opening) (s : Search) → (Once o → All (λ f. Contains o.order.items f ⊎ Searched s e i f) fs) → OpensEach w e i fs o o s s
  each_kept fs o s met = record {
    added = [];
    order = sym (append-nil o.order.items);
    waiting = sym (append-nil o.waiting.items);
    among = All-nil (λ h. Contains fs h);
    once = λ z. z;
    asks = asks_none s;
    met = met;
  }

  pub each_none : (fs : List ℕ) (o : Opening) (s : Search) → OpensEach w e i (take 0 fs) o o s s
  each_none fs o s = each_kept (take 0 fs) o s (λ z. All-nil (λ f. Contains o.order.items f ⊎ Searched s e i f))

  -- a fragment that is open, or was compared
  pub each_skipped : (f : ℕ) (o : Opening) (s : Search) → (has o.seen f ≡ true) ⊎ (covers_of (search_in s) e i f ≡ true) → OpensEach w e i (f ∷ []) o o s s
  each_skipped f o s is =
      let here : Once o → Contains o.order.items f ⊎ Searched s e i f = λ z. elim is [ inl seen ↦ inl (z.seen f seen) | inr was ↦ inr (covers_yes (search_in s) e i f was) ] in
      each_kept (f ∷ []) o s (λ z. All-cons (λ h. Contains o.order.items h ⊎ Searched s e i h) f [] (here z) (All-nil (λ h. Contains o.order.items h ⊎ Searched s e i h)))

  -- a fragment that is new
  pub each_one : (f : ℕ) (o p : Opening) (s t : Search) → i < length w.sets → f < length w.fragments → has o.seen f ≡ false → MayAsk w s e i f → NotesSearch i f e s t
      → Pushes f o p → OpensEach w e i (f ∷ []) o p s t
  each_one f o p s t there known fresh may n push = record {
    added = f ∷ [];
    order = push.order;
    waiting = push.waiting;
    among = All-cons (λ h. Contains (f ∷ []) h) f [] (Contains-push [] f) (All-nil (λ h. Contains (f ∷ []) h));
    once = (gains_new f o p (push.there, push.others) fresh push.order push.waiting).once;
    asks = asks_one f s t there known may n;
    met = λ z. All-cons (λ h. Contains o.order.items h ⊎ Searched t e i h) f [] (inr (e, inl refl, n.notes.noted)) (All-nil (λ h. Contains o.order.items h ⊎ Searched t e i h));
  }

  each_then : (fs gs : List ℕ) (a b c : Opening) (s t u : Search) → OpensEach w e i fs a b s t → OpensEach w e i gs b c t u → OpensEach w e i (fs ++ gs) a c s u
  each_then fs gs a b c s t u x y =
      let still : (f : ℕ) → Contains b.order.items f → Contains a.order.items f ⊎ Searched u e i f = λ f there.
      elim (Contains-append_cases a.order.items x.added f (subst (λ zs. Contains zs f) x.order there)) [
        | inl old ↦ inl old
        | inr new ↦ inr (searched_still t u f y.asks.kept (All-contains (λ h. Searched t e i h) x.added f x.asks.noted new))
      ] in
      record {
        added = x.added ++ y.added;
        order = y.order ∙ ap (λ zs. zs ++ y.added) x.order ∙ append_assoc a.order.items x.added y.added;
        waiting = y.waiting ∙ ap (λ zs. zs ++ y.added) x.waiting ∙ append_assoc a.waiting.items x.added y.added;
        among = All-append (λ h. Contains (fs ++ gs) h) x.added y.added
            (All-weaker (λ h. Contains fs h) (λ h. Contains (fs ++ gs) h) (λ h c. Contains-append_left fs gs h c) x.added x.among)
            (All-weaker (λ h. Contains gs h) (λ h. Contains (fs ++ gs) h) (λ h c. Contains-append_right fs gs h c) y.added y.among);
        once = λ z. y.once (x.once z);
        asks = asks_then x.added y.added s t u x.asks y.asks;
        met = λ z. All-append (λ f. Contains a.order.items f ⊎ Searched u e i f) fs gs
            (All-weaker (λ f. Contains a.order.items f ⊎ Searched t e i f) (λ f. Contains a.order.items f ⊎ Searched u e i f)
            (λ f h. elim h [ inl old ↦ inl old | inr new ↦ inr (searched_still t u f y.asks.kept new) ]) fs (x.met z))
            (All-weaker (λ f. Contains b.order.items f ⊎ Searched u e i f) (λ f. Contains a.order.items f ⊎ Searched u e i f)
            (λ f h. elim h [ inl old ↦ still f old | inr new ↦ inr new ]) gs (y.met (x.once z)));
      }

  -- the next of some fragments
  pub each_more : (fs : List ℕ) (k d : ℕ) (a b c : Opening) (s t u : Search) → k < length fs → OpensEach w e i (take k fs) a b s t
      → OpensEach w e i (get_or fs k d ∷ []) b c t u → OpensEach w e i (take (k + 1) fs) a c s u
  each_more fs k d a b c s t u less x y =
      let is : take k fs ++ get_or fs k d ∷ [] ≡ take (k + 1) fs = sym (take_more fs k d less) in
      subst (λ zs. OpensEach w e i zs a c s u) is (each_then (take k fs) (get_or fs k d ∷ []) a b c s t u x y)

  module _ (g : ℕ) where
    empty_once : (o : Opening) → ((h : ℕ) → has o.seen h ≡ false) → o.order.items ≡ [] → Once o
    empty_once o none os = record {
      seen = λ h z. absurd (clash (has o.seen h) z (none h));
      noted = λ h c. absurd (omega (arith, c.1, ap length os));
      distinct = λ k l x less p q. omega (arith, slice_get_within o.order.items k x p, ap length os);
    }

    -- the first fragment
    pub from_start : (o p : Opening) (s t : Search) → g < length w.fragments → ((h : ℕ) → has o.seen h ≡ false) → o.order.items ≡ [] → o.waiting.items ≡ []
        → OpensEach w e i (g ∷ []) o p s t → OpensFrom w e i g p s t
    from_start o p s t known none os ws x =
        let once = empty_once o none os in
        let all : p.order.items ≡ x.added = x.order ∙ ap (λ zs. zs ++ x.added) os in
        let wait : p.waiting.items ≡ x.added = x.waiting ∙ ap (λ zs. zs ++ x.added) ws in
        let is : (h : ℕ) → Contains p.order.items h → h ≡ g = λ h c. same_one g h (All-contains (λ k. Contains (g ∷ []) k) x.added h x.among (subst (λ zs. Contains zs h) all c)) in
        record {
          once = x.once once;
          asks = subst (λ zs. Asks w e i zs s t) (sym all) x.asks;
          first = elim (All-contains (λ f. Contains o.order.items f ⊎ Searched t e i f) (g ∷ []) g (x.met once) (Contains-push [] g)) [
            | inl old ↦ absurd (omega (arith, old.1, ap length os))
            | inr new ↦ new
          ];
          reached = λ k d l. subst (λ (h : ℕ). Reaches w g h) (sym (is (get_or p.order.items k d) (Contains-get_or p.order.items k d l))) start;
          there = λ k d l. subst (λ (h : ℕ). h < length w.fragments) (sym (is (get_or p.order.items k d) (Contains-get_or p.order.items k d l))) known;
          waiting = subst (λ zs. All (λ h. Contains p.order.items h) zs) (all ∙ sym wait) (λ k d l. Contains-get_or p.order.items k d l);
          followed = λ h c. inl (subst (λ zs. Contains zs h) (all ∙ sym wait) c);
        }

    -- a fragment that waited is followed
    pub from_next : (f : ℕ) (o m p : Opening) (s t u : Search) → Falling w.sets w.fragments → OpensFrom w e i g o s t → m.seen ≡ o.seen → m.order ≡ o.order
        → o.waiting.items ≡ m.waiting.items ++ f ∷ [] → OpensEach w e i (spreads_of w (set_of w f)) m p t u → OpensFrom w e i g p s u
    from_next f o m p s t u falling x se os ws y =
        let list = spreads_of w (set_of w f) in
        let once : Once m = record {
          seen = λ h z. subst (λ v. Contains v.items h) (sym os) (x.once.seen h (subst (λ v. has v h ≡ true) se z));
          noted = λ h c. subst (λ v. has v h ≡ true) (sym se) (x.once.noted h (subst (λ v. Contains v.items h) os c));
          distinct = subst (λ v. NoRepeats v.items) (sym os) x.once.distinct;
        } in
        let all : p.order.items ≡ o.order.items ++ y.added = y.order ∙ ap (λ v. v.items ++ y.added) os in
        let fwd : (h : ℕ) → Contains o.order.items h → Contains p.order.items h = λ h c. subst (λ zs. Contains zs h) (sym all) (Contains-append_left o.order.items y.added h c) in
        let new : (h : ℕ) → Contains y.added h → Contains p.order.items h = λ h c. subst (λ zs. Contains zs h) (sym all) (Contains-append_right o.order.items y.added h c) in
        let cases : (h : ℕ) → Contains p.order.items h → Contains o.order.items h ⊎ Contains y.added h = λ h c. Contains-append_cases o.order.items y.added h (subst (λ zs. Contains zs h) all c) in
        let waits : (h : ℕ) → Contains m.waiting.items h → Contains p.waiting.items h = λ h c. subst (λ zs. Contains zs h) (sym y.waiting) (Contains-append_left m.waiting.items y.added h c) in
        let listed : Contains o.order.items f = All-contains (λ h. Contains o.order.items h) o.waiting.items f x.waiting (subst (λ zs. Contains zs f) (sym ws) (Contains-push m.waiting.items f)) in
        let still : (h : ℕ) → Searched t e i h → Searched u e i h = λ h z. searched_still t u h y.asks.kept z in
        let done : All (λ k. Searched u e i k) list = All-weaker (λ k. Contains m.order.items k ⊎ Searched u e i k) (λ k. Searched u e i k)
        (λ k h. elim h [
          | inl old ↦ still k (All-contains (λ h. Searched t e i h) o.order.items k x.asks.noted (subst (λ v. Contains v.items k) os old))
          | inr z ↦ z
        ]) list (y.met once) in
        record {
          once = y.once once;
          asks = subst (λ zs. Asks w e i zs s u) (sym all) (asks_then o.order.items y.added s t u x.asks y.asks);
          first = still g x.first;
          reached = λ k d l. let h = get_or p.order.items k d in
              elim (cases h (Contains-get_or p.order.items k d l)) [
                | inl old ↦ All-contains (Reaches w g) o.order.items h x.reached old
                | inr z ↦ step (All-contains (Reaches w g) o.order.items f x.reached listed) (All-contains (λ k. Contains list k) y.added h y.among z)
              ];
          there = λ k d l. let h = get_or p.order.items k d in
              elim (cases h (Contains-get_or p.order.items k d l)) [
                | inl old ↦ All-contains (λ h. h < length w.fragments) o.order.items h x.there old
                | inr z ↦ (All-contains (λ k. (k < length w.fragments) × (set_of w k < set_of w f)) list h (falling (set_of w f)).1 (All-contains (λ k. Contains list k) y.added h y.among z)).0
              ];
          waiting = λ k d l. let h = get_or p.waiting.items k d in
              elim (Contains-append_cases m.waiting.items y.added h (subst (λ zs. Contains zs h) y.waiting (Contains-get_or p.waiting.items k d l))) [
                | inl old ↦ fwd h (All-contains (λ h. Contains o.order.items h) o.waiting.items h x.waiting (subst (λ zs. Contains zs h) (sym ws) (Contains-append_left m.waiting.items (f ∷ []) h old)))
                | inr z ↦ new h z
              ];
          followed = λ h c. elim (cases h c) [
            | inl old ↦ elim (x.followed h old) [
              | inl wait ↦ elim (Contains-push_cases m.waiting.items f h (subst (λ zs. Contains zs h) ws wait)) [
                | inl later ↦ inl (waits h later)
                | inr is ↦ inr (subst (λ (k : ℕ). All (λ j. Searched u e i j) (spreads_of w (set_of w k))) is done)
              ]
              | inr z ↦ inr (All-weaker (λ k. Searched t e i k) (λ k. Searched u e i k) still (spreads_of w (set_of w h)) z)
            ]
            | inr z ↦ inl (subst (λ zs. Contains zs h) (sym y.waiting) (Contains-append_right m.waiting.items y.added h z))
          ];
        }

    pub few_from : (o : Opening) (s t : Search) → OpensFrom w e i g o s t → length o.order.items ≤ length w.fragments
    few_from o s t x = few_below o.order.items (length w.fragments) x.once.distinct x.there

    -- each turn leaves less to do
    pub less_from : (f : ℕ) (o m p : Opening) (t u : Search) → m.order ≡ o.order → o.waiting.items ≡ m.waiting.items ++ f ∷ [] → OpensEach w e i (spreads_of w (set_of w f)) m p t u
        → length p.order.items ≤ length w.fragments
        → (2 * length w.fragments + length p.waiting.items) - 2 * length p.order.items < (2 * length w.fragments + length o.waiting.items) - 2 * length o.order.items
    less_from f o m p t u os ws y few =
        omega (
          arith,
          ap length y.order,
          ap length y.waiting,
          length-append m.order.items y.added,
          length-append m.waiting.items y.added,
          ap (λ v. length v.items) os,
          ap length ws,
          length-append m.waiting.items (f ∷ []),
          few,
        )

    -- nothing waits
    pub from_end : (o : Opening) (s t : Search) → o.waiting.items ≡ [] → OpensFrom w e i g o s t → OpensBelow w e i g o.order.items s t
    from_end o s t none x = record {
      asks = x.asks;
      first = x.first;
      followed = λ k d l. let h = get_or o.order.items k d in
          elim (x.followed h (Contains-get_or o.order.items k d l)) [ inl wait ↦ absurd (omega (arith, wait.1, ap length none)) | inr z ↦ z ];
      reached = x.reached;
      few = few_from o s t x;
    }

    -- nothing that is spoken of changed before
    pub below_kept : (hs : List ℕ) (s t u : Search) → Keeps s t → CountsStay s t → OpensBelow w e i g hs t u → OpensBelow w e i g hs s u
    below_kept hs s t u k c x = record { asks = asks_kept hs s t u k c x.asks; first = x.first; followed = x.followed; reached = x.reached; few = x.few }
