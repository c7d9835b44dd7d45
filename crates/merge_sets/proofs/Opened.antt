-- How fragments are opened.
use Rattle.std.proofs.Common.{◌≡◌, ℕ, ◌+◌, ◌-◌, ◌*◌, ◌<◌, ◌≤◌, List, [], ◌∷◌, ◌++◌, length, take, get_or, refl, sym, subst, ap, ◌∙◌, arith, Bool, false, true, not, inl, inr, ◌⊎◌, length-append}
use Rattle.std.specs.List.{All, Contains}
use Rattle.std.proofs.lemmas.Bool.{cases_eq}
use Rattle.std.proofs.lemmas.List.{take_all, length-take}
use Rattle.std.proofs.lemmas.List.Elements.{Contains-get_or, All-more, All-contains, All-nil, All-cons, All-weaker, Contains-push, Contains-append_left, Contains-push_cases}
use Rattle.std.proofs.lemmas.Option.{slice_get_within, get_or_from_slice_get}
use Rattle.bit_matrix.specs.declared.set.BitSet.{BitSet}
use Rattle.bit_matrix.specs.Set.{has}
use Rattle.merge_sets.specs.Graph.{Falling}
use Rattle.merge_sets.specs.World.{World, spreads_of, set_of}
use Rattle.merge_sets.specs.Opening.{Reaches, start, step, ReachedFrom, Opens, NoRepeats}
use Rattle.merge_sets.specs.Sound.{Once, Gains, Sound}
use Rattle.merge_sets.specs.declared.opening.Opening.{Opening}
use Rattle.merge_sets.proofs.Distinct.{few_below, repeats_push}
use Rattle.merge_sets.proofs.Laws.{clash}

-- f was added, and nothing else
abbrev pub Inserted : ℕ → BitSet → BitSet → Type 0
Inserted f old new = (has new f ≡ true) × ((m : ℕ) → (m ≡ f → ⊥) → has new m ≡ has old m)

seen_still : (f h : ℕ) (old new : BitSet) → Inserted f old new → has old h ≡ true → has new h ≡ true
seen_still f h old new u z = elim (cases_eq h f) [ inl is ↦ subst (λ (x : ℕ). has new x ≡ true) (sym is) u.0 | inr other ↦ u.1 h other ∙ z ]

one_of : (f h : ℕ) → f ≡ h → Contains (f ∷ []) h
one_of f h eq = subst (λ (x : ℕ). Contains (f ∷ []) x) eq (Contains-push [] f)

-- a fragment that was not open is
pub gains_new : (f : ℕ) (s t : Opening) → Inserted f s.seen t.seen → has s.seen f ≡ false
    → t.order.items ≡ s.order.items ++ f ∷ [] → t.waiting.items ≡ s.waiting.items ++ f ∷ [] → Gains (f ∷ []) (f ∷ []) s t
gains_new f s t u fresh os ws =
    let here : Contains t.order.items f = subst (λ zs. Contains zs f) (sym os) (Contains-push s.order.items f) in
    let kept : (h : ℕ) → Contains s.order.items h → Contains t.order.items h = λ h c. subst (λ zs. Contains zs h) (sym os) (Contains-append_left s.order.items (f ∷ []) h c) in
    let cases : (h : ℕ) → Contains t.order.items h → Contains s.order.items h ⊎ (f ≡ h) = λ h c. Contains-push_cases s.order.items f h (subst (λ zs. Contains zs h) os c) in
    record {
      once = λ o. record {
        seen = λ h z. elim (cases_eq h f) [
          | inl is ↦ subst (λ (x : ℕ). Contains t.order.items x) (sym is) here
          | inr other ↦ kept h (o.seen h (sym (u.1 h other) ∙ z))
        ];
        noted = λ h c. elim (cases h c) [
          | inl old ↦ seen_still f h s.seen t.seen u (o.noted h old)
          | inr is ↦ subst (λ (x : ℕ). has t.seen x ≡ true) is u.0
        ];
        distinct = subst (λ zs. NoRepeats zs) (sym os) (repeats_push s.order.items f o.distinct (λ c. clash (has s.seen f) (o.noted f c) fresh));
      };
      opened = λ o. All-cons (λ h. Contains t.order.items h) f [] here (All-nil (λ h. Contains t.order.items h));
      kept = kept;
      only = λ h c. elim (cases h c) [ inl old ↦ inl old | inr is ↦ inr (one_of f h is, subst (λ zs. Contains zs h) (sym ws) (subst (λ (x : ℕ). Contains (s.waiting.items ++ f ∷ []) x) is (Contains-push s.waiting.items f))) ];
      waits = λ h c. subst (λ zs. Contains zs h) (sym ws) (Contains-append_left s.waiting.items (f ∷ []) h c);
      waiting = λ h c. elim (Contains-push_cases s.waiting.items f h (subst (λ zs. Contains zs h) ws c)) [ inl old ↦ inl old | inr is ↦ inr (subst (λ (x : ℕ). Contains t.order.items x) is here) ];
      longer = omega (arith, ap length os, length-append s.order.items (f ∷ []));
      left = omega (arith, ap length os, ap length ws, length-append s.order.items (f ∷ []), length-append s.waiting.items (f ∷ []));
    }

-- a fragment that was open is still
pub gains_old : (f : ℕ) (s t : Opening) → Inserted f s.seen t.seen → has s.seen f ≡ true → t.order ≡ s.order → t.waiting ≡ s.waiting → Gains (f ∷ []) (f ∷ []) s t
gains_old f s t u seen os ws =
    let kept : (h : ℕ) → Contains s.order.items h → Contains t.order.items h = λ h c. subst (λ v. Contains v.items h) (sym os) c in
    let back : (h : ℕ) → Contains t.order.items h → Contains s.order.items h = λ h c. subst (λ v. Contains v.items h) os c in
    record {
      once = λ o. record {
        seen = λ h z. elim (cases_eq h f) [
          | inl is ↦ kept h (o.seen h (subst (λ (x : ℕ). has s.seen x ≡ true) (sym is) seen))
          | inr other ↦ kept h (o.seen h (sym (u.1 h other) ∙ z))
        ];
        noted = λ h c. seen_still f h s.seen t.seen u (o.noted h (back h c));
        distinct = subst (λ v. NoRepeats v.items) (sym os) o.distinct;
      };
      opened = λ o. All-cons (λ h. Contains t.order.items h) f [] (kept f (o.seen f seen)) (All-nil (λ h. Contains t.order.items h));
      kept = kept;
      only = λ h c. inl (back h c);
      waits = λ h c. subst (λ v. Contains v.items h) (sym ws) c;
      waiting = λ h c. inl (subst (λ v. Contains v.items h) ws c);
      longer = omega (arith, ap (λ v. length v.items) os);
      left = omega (arith, ap (λ v. length v.items) os, ap (λ v. length v.items) ws);
    }

pub gains_none : (xs : List ℕ) (s : Opening) → Gains (take 0 xs) xs s s
gains_none xs s = record {
  once = λ o. o;
  opened = λ o i d l. absurd (omega (arith, length-take 0 xs, l));
  kept = λ h c. c;
  only = λ h c. inl c;
  waits = λ h c. c;
  waiting = λ h c. inl c;
  longer = omega arith;
  left = refl;
}

same_one : (x h : ℕ) → Contains (x ∷ []) h → x ≡ h
same_one x h c = elim (Contains-push_cases [] x h c) [ inl old ↦ absurd (omega (arith, old.1)) | inr is ↦ is ]

pub gains_more : (xs : List ℕ) (k d : ℕ) {s t u : Opening} → k < length xs → Gains (take k xs) xs s t → Gains (get_or xs k d ∷ []) (get_or xs k d ∷ []) t u → Gains (take (k + 1) xs) xs s u
gains_more xs k d {s} {t} {u} l a b = record {
  once = λ o. b.once (a.once o);
  opened = λ o. All-more (λ h. Contains u.order.items h) xs k d l (All-weaker (λ h. Contains t.order.items h) (λ h. Contains u.order.items h) b.kept (take k xs) (a.opened o))
      (All-contains (λ h. Contains u.order.items h) (get_or xs k d ∷ []) (get_or xs k d) (b.opened (a.once o)) (Contains-push [] (get_or xs k d)));
  kept = λ h c. b.kept h (a.kept h c);
  only = λ h c. elim (b.only h c) [
    | inl old ↦ elim (a.only h old) [ inl older ↦ inl older | inr z ↦ inr (z.0, b.waits h z.1) ]
    | inr z ↦ inr (subst (λ (x : ℕ). Contains xs x) (same_one (get_or xs k d) h z.0) (Contains-get_or xs k d l), z.1)
  ];
  waits = λ h c. b.waits h (a.waits h c);
  waiting = λ h c. elim (b.waiting h c) [ inl old ↦ elim (a.waiting h old) [ inl older ↦ inl older | inr z ↦ inr (b.kept h z) ] | inr z ↦ inr z ];
  longer = omega (arith, a.longer, b.longer);
  left = omega (arith, a.left, b.left);
}

pub gains_all : (xs ys : List ℕ) (k : ℕ) {s t : Opening} → length xs ≤ k → xs ≡ ys → Gains (take k xs) xs s t → Gains ys ys s t
gains_all xs ys k {s} {t} l eq a = subst (λ zs. Gains zs zs s t) eq (subst (λ zs. Gains zs xs s t) (take_all k xs l) a)

-- the first fragments
pub sound_start : (w : World) (gs : List ℕ) (s t : Opening) → All (λ g. g < length w.fragments) gs → ((h : ℕ) → has s.seen h ≡ false) → s.order.items ≡ [] → s.waiting.items ≡ []
    → Gains gs gs s t → Sound w gs t
sound_start w gs s t lt none os ws a =
    let empty : (h : ℕ) → Contains s.order.items h → ⊥ = λ h c. omega (arith, c.1, ap length os) in
    let once : Once s = record { seen = λ h z. absurd (clash (has s.seen h) z (none h)); noted = λ h c. absurd (empty h c); distinct = λ k l x less p q. absurd (empty x (k, slice_get_within s.order.items k x p, get_or_from_slice_get s.order.items k x x p)) } in
    let is : (h : ℕ) → Contains t.order.items h → Contains gs h × Contains t.waiting.items h = λ h c. elim (a.only h c) [ inl old ↦ absurd (empty h old) | inr z ↦ z ] in
    record {
      once = a.once once;
      first = a.opened once;
      reached = λ k d l. (get_or t.order.items k d, (is (get_or t.order.items k d) (Contains-get_or t.order.items k d l)).0, start);
      below = λ k d l. All-contains (λ g. g < length w.fragments) gs (get_or t.order.items k d) lt (is (get_or t.order.items k d) (Contains-get_or t.order.items k d l)).0;
      waiting = λ k d l. elim (a.waiting (get_or t.waiting.items k d) (Contains-get_or t.waiting.items k d l)) [ inl old ↦ absurd (omega (arith, old.1, ap length ws)) | inr z ↦ z ];
      followed = λ h c. inl (is h c).1;
    }

-- what one reaches
pub reached_one : (w : World) (g : ℕ) (hs : List ℕ) → All (ReachedFrom w (g ∷ [])) hs → All (Reaches w g) hs
reached_one w g hs all = All-weaker (ReachedFrom w (g ∷ [])) (Reaches w g) (λ h z. subst (λ (x : ℕ). Reaches w x h) (sym (same_one g z.0 z.1)) z.2) hs all

-- a fragment that waited is followed
pub sound_gained : (w : World) (gs : List ℕ) (f : ℕ) (s m t : Opening) → Falling w.sets w.fragments → Sound w gs s → m.seen ≡ s.seen → m.order ≡ s.order → s.waiting.items ≡ m.waiting.items ++ f ∷ []
    → Gains (spreads_of w (set_of w f)) (spreads_of w (set_of w f)) m t → Sound w gs t
sound_gained w gs f s m t falling o se os ws a =
    let once : Once m = record {
      seen = λ h z. subst (λ v. Contains v.items h) (sym os) (o.once.seen h (subst (λ v. has v h ≡ true) se z));
      noted = λ h c. subst (λ v. has v h ≡ true) (sym se) (o.once.noted h (subst (λ v. Contains v.items h) os c));
      distinct = subst (λ v. NoRepeats v.items) (sym os) o.once.distinct;
    } in
    let fwd : (h : ℕ) → Contains s.order.items h → Contains t.order.items h = λ h c. a.kept h (subst (λ v. Contains v.items h) (sym os) c) in
    let back : (h : ℕ) → Contains m.order.items h → Contains s.order.items h = λ h c. subst (λ v. Contains v.items h) os c in
    let there : Contains s.order.items f = All-contains (λ h. Contains s.order.items h) s.waiting.items f o.waiting (subst (λ zs. Contains zs f) (sym ws) (Contains-push m.waiting.items f)) in
    let spread : (k : ℕ) → Contains (spreads_of w (set_of w f)) k → k < length w.fragments = λ k c. (All-contains (λ i. (i < length w.fragments) × (set_of w i < set_of w f)) (spreads_of w (set_of w f)) k (falling (set_of w f)).1 c).0 in
    let done : All (λ k. Contains t.order.items k) (spreads_of w (set_of w f)) = a.opened once in
    record {
      once = a.once once;
      first = All-weaker (λ g. Contains s.order.items g) (λ g. Contains t.order.items g) fwd gs o.first;
      reached = λ k d l. elim (a.only (get_or t.order.items k d) (Contains-get_or t.order.items k d l)) [
        | inl old ↦ All-contains (ReachedFrom w gs) s.order.items (get_or t.order.items k d) o.reached (back (get_or t.order.items k d) old)
        | inr z ↦ let from = All-contains (ReachedFrom w gs) s.order.items f o.reached there in (from.0, from.1, step from.2 z.0)
      ];
      below = λ k d l. elim (a.only (get_or t.order.items k d) (Contains-get_or t.order.items k d l)) [
        | inl old ↦ All-contains (λ h. h < length w.fragments) s.order.items (get_or t.order.items k d) o.below (back (get_or t.order.items k d) old)
        | inr z ↦ spread (get_or t.order.items k d) z.0
      ];
      waiting = λ k d l. elim (a.waiting (get_or t.waiting.items k d) (Contains-get_or t.waiting.items k d l)) [
        | inl old ↦ fwd (get_or t.waiting.items k d) (All-contains (λ h. Contains s.order.items h) s.waiting.items (get_or t.waiting.items k d) o.waiting
            (subst (λ zs. Contains zs (get_or t.waiting.items k d)) (sym ws) (Contains-append_left m.waiting.items (f ∷ []) (get_or t.waiting.items k d) old)))
        | inr z ↦ z
      ];
      followed = λ h c. elim (a.only h c) [
        | inl old ↦ elim (o.followed h (back h old)) [
          | inl waits ↦ elim (Contains-push_cases m.waiting.items f h (subst (λ zs. Contains zs h) ws waits)) [
            | inl still ↦ inl (a.waits h still)
            | inr is ↦ inr (subst (λ (x : ℕ). All (λ k. Contains t.order.items k) (spreads_of w (set_of w x))) is done)
          ]
          | inr all ↦ inr (All-weaker (λ k. Contains s.order.items k) (λ k. Contains t.order.items k) fwd (spreads_of w (set_of w h)) all)
        ]
        | inr z ↦ inl z.1
      ];
    }

pub few_open : (w : World) (gs : List ℕ) (o : Opening) → Sound w gs o → length o.order.items ≤ length w.fragments
few_open w gs o s = few_below o.order.items (length w.fragments) s.once.distinct s.below

pub opens_end : (w : World) (gs : List ℕ) (o : Opening) → Sound w gs o → o.waiting.items ≡ [] → Opens w gs o.order.items
opens_end w gs o s none = record {
  first = s.first;
  followed = λ h k c d. elim (s.followed h c) [
    | inl waits ↦ absurd (omega (arith, waits.1, ap length none))
    | inr all ↦ All-contains (λ i. Contains o.order.items i) (spreads_of w (set_of w h)) k all d
  ];
  reached = s.reached;
  few = few_open w gs o s;
  there = s.below;
  once = s.once.distinct;
}

-- each step leaves less to do
pub less_left : (w : World) (n f : ℕ) (fs gs : List ℕ) (s m t : Opening) → m.order ≡ s.order → s.waiting.items ≡ m.waiting.items ++ f ∷ [] → Gains fs gs m t → length t.order.items ≤ n
    → (2 * n + length t.waiting.items) - 2 * length t.order.items < (2 * n + length s.waiting.items) - 2 * length s.order.items
less_left w n f fs gs s m t os ws a top =
    omega (arith, ap length ws, length-append m.waiting.items (f ∷ []), ap (λ v. length v.items) os, a.left, a.longer, top)

pub flag_new : (r b : Bool) → r ≡ not b → r ≡ true → b ≡ false
flag_new r true h k = cc
flag_new r false h k = refl

pub flag_old : (r b : Bool) → r ≡ not b → r ≡ false → b ≡ true
flag_old r true h k = refl
flag_old r false h k = cc
