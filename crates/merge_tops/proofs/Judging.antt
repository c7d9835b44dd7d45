-- What follows once all sets were searched.
use Rattle.std.proofs.Common.{◌≡◌, ◌==◌, ℕ, ◌+◌, ◌<◌, ◌≤◌, List, [], length, get_or, refl, sym, subst, ap, ◌∙◌, arith, Some, inl, inr, false, true, slice_get, below_more, max, min}
use Rattle.std.specs.List.{All, Contains}
use Rattle.std.proofs.lemmas.Option.{get_or_from_slice_get, slice_get_within, slice_get-get_or}
use Rattle.std.proofs.lemmas.Bool.{cases_order}
use Rattle.std.proofs.lemmas.List.{get_or_default}
use Rattle.std.proofs.lemmas.List.Elements.{All-contains, All-weaker}
use Rattle.std.proofs.lemmas.Map.Views.{Contains-from_any}
use Rattle.merge_sets.specs.declared.node.Entry.{Entry}
use Rattle.merge_search.specs.declared.state.Search.{Search}
use Rattle.merge_sets.specs.declared.finding.Finding.{Finding}
use Rattle.merge_sets.specs.declared.finding.Finding.TheVariants.{Direct}
use Rattle.merge_sets.specs.Judgement.{Lawful}
use Rattle.merge_sets.specs.Graph.{Falling, AreListed, IsWhole}
use Rattle.merge_sets.specs.World.{World, HasRoom, own_of, spreads_of, set_of, conflict_of, Same}
use Rattle.merge_sets.specs.Opening.{ReachedFrom, Opens}
use Rattle.merge_search.specs.Work.{pair_in, search_in, OwnPairs, Done, AllClosed, Grows, Did}
use Rattle.merge_sets.specs.Merging.{Stands, own, spread, Apart, own_own, own_spread, spread_own, two_spreads, one_spread, SetMerges, Merges}
use Rattle.merge_search.specs.Reports.{Root, Judged, Real, AddsAll, AtOwn, AtPlaces, AtSearched, IsRoot}
use Rattle.merge_search.specs.declared.log.Log.{Log}
use Rattle.merge_search.specs.Log.{in_log}
use Rattle.merge_search.specs.State.{Begins, Keeps}
use Rattle.merge_tops.specs.Tops.{AtTop, AtWithin, AtWritten, AtSpreads, AtListed, OwnWritten, Top}
use Rattle.merge_search.proofs.Adding.{Upto, refuted, roots_of, no_root}
use Rattle.merge_sets.proofs.Laws.{clash, conflict_self, same_some}
use Rattle.merge_search.proofs.Work.{grows_same, grows_then}
use Rattle.merge_search.proofs.Rows.{row_opened}
use Rattle.merge_tops.proofs.Core.{set_merges, ways, failing}

place_of : {X : Type 0} (xs : List X) (x : X) (p : Contains xs x) → slice_get xs p.0 ≡ Some x
place_of xs x p = slice_get-get_or xs p.0 x p.1 ∙ ap (λ y. Some y) p.2

contains_at : {X : Type 0} (xs : List X) (k : ℕ) (x : X) → slice_get xs k ≡ Some x → Contains xs x
contains_at xs k x p = (k, slice_get_within xs k x p, get_or_from_slice_get xs k x x p)

apart_stands : {w : World} {s : ℕ} {a b : Entry} → Apart w s a b → Stands w s a × Stands w s b
apart_stands {w} {s} {a} {b} (own_own {k = k} {l = l} p q ne) = (own (contains_at (own_of w s) k a p), own (contains_at (own_of w s) l b q))
apart_stands (own_spread p v q) = (own p, spread v q)
apart_stands (spread_own v p q) = (spread v p, own q)
apart_stands {w} {s} (two_spreads {f = f} {g = g} {k = k} {l = l} v z ne p q) = (spread (contains_at (spreads_of w s) k f v) p, spread (contains_at (spreads_of w s) l g z) q)
apart_stands (one_spread v p) = let h = apart_stands p in (spread v h.0, spread v h.1)

-- where the roots lie
pub places_within : (w : World) (s : ℕ) (r : Root) → AtWithin w s r → AtPlaces w s r
places_within w s r h = (own_own h.0.3 h.0.4 (λ eq. omega (arith, h.0.2, eq)), h.1)

pub places_written : (w : World) (s f : ℕ) → Contains (spreads_of w s) f → (r : Root) → AtWritten w s f r → AtPlaces w s r
places_written w s f v r h = (own_spread h.0 v h.1, h.2)

pub places_listed : (w : World) (s f : ℕ) (xs : List ℕ) → xs ≡ spreads_of w s → Contains xs f → (r : Root) → AtListed w f xs r → AtPlaces w s r
places_listed w s f xs eq c r h = (
  two_spreads (at c) (at h.1) (λ same. h.2.0 (same_some f h.0 (slice_get (spreads_of w s) c.0) (at c) (subst (λ k. slice_get (spreads_of w s) k ≡ Some h.0) (sym same) (at h.1)))) h.2.1 h.2.2,
  h.2.3,
)
  where
    at : {x : ℕ} (p : Contains xs x) → slice_get (spreads_of w s) p.0 ≡ Some x
    at {x} p = subst (λ ys. slice_get ys p.0 ≡ Some x) eq (place_of xs x p)

eq_from : (m n : ℕ) → (m == n) ≡ true → m ≡ n
eq_from m n h = grind arith

all_listed : (fragments order : List ℕ) → AreListed fragments order → (f : ℕ) → f < length fragments → Contains order (get_or fragments f 0)
all_listed fragments order listed f l = Contains-from_any {eq = λ x y. x == y} eq_from (get_or fragments f 0) order (listed f l)

at_order : (order : List ℕ) (n : ℕ) (P : ℕ → Type 0) → length order ≤ n → ((i : ℕ) → i < n → P (get_or order i 0)) → (s : ℕ) → Contains order s → P s
at_order order n P le h s c = subst P (get_or_default order c.0 0 s c.1 ∙ c.2) (h c.0 (omega (arith, c.1, le)))

pub all_tops : (w : World) (M : Search) (order : List ℕ) (n : ℕ) → length order ≤ n → ((i : ℕ) → i < n → Top w M (get_or order i 0)) → (s : ℕ) → Contains order s → Top w M s
all_tops w M order n le h s c = at_order order n (λ t. Top w M t) le h s c

nothing_in : {X : Type 0} (xs : List X) (x : X) → xs ≡ [] → Contains xs x → ⊥
nothing_in xs x eq c = omega (arith, c.1, ap length eq)

refuses_all : (w : World) (laws : Lawful w.judgement) (order : List ℕ) (found : List Finding) → Real w order found → 0 < length found → ((s : ℕ) → Contains order s → SetMerges w s) → ⊥
refuses_all w laws order found d l all =
    let long : 0 < length d.more = subst (λ (z : List Finding). 0 < length z) d.grown l in
    let some = roots_of d.shown long in
    let at = d.placed 0 no_root some in
    (refuted w laws d.shown) 0 no_root some (all at.0 at.1 (get_or d.roots 0 no_root).left (get_or d.roots 0 no_root).right at.2.0 at.2.1)

-- Each pair that a set asks for at the top is a root.
abbrev pub TopsTold : World → List ℕ → List Root → Type 0
TopsTold w order roots = (s : ℕ) → Contains order s → (r : Root) → AtTop w s r → conflict_of w false r.left r.right ≡ true → Contains roots r

module _ (w : World) (laws : Lawful w.judgement) (order : List ℕ) (roots : List Root) (told : TopsTold w order roots) where
  own_root : (s : ℕ) → Contains order s → (a b : Entry) → Contains (own_of w s) a → Contains (own_of w s) b → Same a b → conflict_of w false a b ≡ true → IsRoot roots a b
  own_root s c a b p q same fails = elim (cases_order p.0 q.0) [
    | inl eq ↦
        let is : a ≡ b = same_some a b (slice_get (own_of w s) p.0) (place_of (own_of w s) a p) (subst (λ k. slice_get (own_of w s) k ≡ Some b) (sym eq) (place_of (own_of w s) b q)) in
        absurd (clash (conflict_of w false a b) fails (subst (λ y. conflict_of w false a y ≡ false) is (conflict_self w laws false a)))
    | inr o ↦ elim o [
      | inl l ↦ inl (told s c (record { left = a; right = b }) (inl ((p.0, q.0, l, place_of (own_of w s) a p, place_of (own_of w s) b q), same)) fails)
      | inr l ↦ inr (told s c (record { left = b; right = a }) (inl ((q.0, p.0, l, place_of (own_of w s) b q, place_of (own_of w s) a p), sym same)) (laws.conflict_flip false a.field b.field ∙ fails))
    ]
  ]

  pub top_root : (s : ℕ) (a b : Entry) → Contains order s → Contains (own_of w s) a → Stands w s b → Same a b → conflict_of w false a b ≡ true → IsRoot roots a b
  top_root s a b c p (own q) same fails = own_root s c a b p q same fails
  top_root s a b c p (spread {f = f} v q) same fails = inl (told s c (record { left = a; right = b }) (inr (f, v, (p, q, same))) fails)

all_of_merged : (w : World) → ((s : ℕ) (a b : Entry) → Stands w s a → Stands w s b → Same a b → Merges w false a b) → (s : ℕ) → SetMerges w s
all_of_merged w h s a b apart same = let at = apart_stands apart in h s a b at.0 at.1 same

judged : (w : World) (M : Search) (order : List ℕ) → Falling w.sets w.fragments → AreListed w.fragments order → (HasRoom w M.found.items → AllClosed w M M) → (HasRoom w M.found.items → (s : ℕ) → Contains order s → Top w M s)
    → (real : Real w order M.found.items) → (HasRoom w M.found.items → TopsTold w order real.roots) → Judged w order M.found.items
judged w M order falling listed closing topping real telling = record {
  real = real;
  refuses = λ laws. refuses_all w laws order M.found.items real;
  complete = λ room laws.
      let closed = closing room in
      let top = topping room in
      let told = telling room in
      let quiet : IsWhole w.sets order → M.found.items ≡ [] → (s : ℕ) (a b : Entry) → Stands w s a → Stands w s b → Same a b → Merges w false a b =
      λ whole none s a b p q same. set_merges w M falling closed order (all_listed w.fragments order listed) top laws whole (λ c d e r. nothing_in M.found.items (Direct c d e) none r) p q same in
      record {
        exact = quiet;
        merges = λ whole none. all_of_merged w (quiet whole none);
        ways = λ whole s a b p q same v. ways w M falling closed order (all_listed w.fragments order listed) top laws whole p q same v;
        failing = λ s a b c p q same h. failing w M falling closed order (all_listed w.fragments order listed) top laws c p q same h;
        at_the_top = top_root w laws order real.roots told;
      };
}

-- The first k sets of the order were searched, and all that was recorded is followed up.
abbrev pub TopsDone : World → List ℕ → ℕ → Search → Type 0
TopsDone w order k s = (M : Search) → Grows s M → HasRoom w M.found.items → AllClosed w M s × ((i : ℕ) → i < k → Top w M (get_or order i 0))

pub next_tops : (w : World) (order : List ℕ) (k : ℕ) {s t : Search} → TopsDone w order k s → Did w (λ M. Top w M (get_or order k 0)) s t → TopsDone w order (k + 1) t
next_tops w order k had d M g r =
    let before = had M (grows_then d.grows g) r in
    (d.closes M g r before.0, below_more (λ i. Top w M (get_or order i 0)) k before.1 (d.holds M g r))

-- what is asked at the beginning finds and notes nothing
pub begins_asked : (m : ℕ) (s t : Search) → Begins m s → Keeps s t → Begins t.judged t
begins_asked m s t b k = record {
  pairs = λ e f g. ap (λ (l : Log). in_log l e (max f g) (min f g)) k.pairs ∙ b.pairs e f g;
  searched = λ e i g. ap (λ (l : Log). in_log l e i g) k.searched ∙ b.searched e i g;
  found = k.found ∙ b.found;
  compared = k.compared ∙ b.compared;
  opened = k.opened ∙ b.opened;
  looked = k.looked ∙ b.looked;
  judged = refl;
  repeated = k.repeated ∙ b.repeated;
}

pub no_tops : (w : World) (order : List ℕ) (n : ℕ) (s : Search) → Begins n s → TopsDone w order 0 s
no_tops w order n s b M g r = (
  record {
    pairs_closed = λ x f h z. absurd (clash (pair_in s x f h) z (b.pairs x f h));
    searches_closed = λ x i h z. absurd (clash (search_in s x i h) z (b.searched x i h));
  },
  λ i l. absurd (omega (arith, l)),
)

pub judged_at : (w : World) (M : Search) (order items : List ℕ) (n : ℕ) → items ≡ order → length items ≤ n → Falling w.sets w.fragments → AreListed w.fragments order
    → TopsDone w items n M → AddsAll w false (AtSearched w items) (Upto items n 0 (λ s. AtTop w s)) [] M.found.items → Judged w order M.found.items
judged_at w M order items n eq le falling listed had real =
    subst (λ zs. Judged w zs M.found.items) eq
    (judged w M items falling (subst (AreListed w.fragments) (sym eq) listed) (λ room. (had M (grows_same M) room).0) (λ room. all_tops w M items n le (had M (grows_same M) room).1) real.adds
    (λ room s c r at fails. real.tells room r (c.0, omega (arith, c.1, le), subst (λ t. AtTop w t r) (sym (get_or_default items c.0 0 s c.1 ∙ c.2)) at) fails))

-- all of a fragment, from the own fields of those that a search opens
own_in : (w : World) (M : Search) (s t g : ℕ) (hs : List ℕ) → t ≡ set_of w g → ((h k : ℕ) → Contains hs h → Contains (spreads_of w (set_of w h)) k → Contains hs k)
    → All (λ h. OwnPairs w M false s (set_of w h)) hs → Contains hs g → (a b : Entry) → Contains (own_of w s) a → Stands w t b → Same a b → Done w M false a b
own_in w M s t g hs is followed all c a b p (own q) same =
    All-contains (λ h. OwnPairs w M false s (set_of w h)) hs g all c a b p (subst (λ u. Contains (own_of w u) b) is q) same
own_in w M s t g hs is followed all c a b p (spread {f = h} v q) same =
    own_in w M s (set_of w h) h hs refl followed all (followed g h c (subst (λ u. Contains (spreads_of w u) h) is v)) a b p q same

pub own_written : (w : World) (M : Search) (s : ℕ) (gs hs : List ℕ) → Opens w gs hs → All (λ h. OwnPairs w M false s (set_of w h)) hs → All (λ g. OwnWritten w M s g) gs
own_written w M s gs hs o all =
    All-weaker (λ g. Contains hs g) (λ g. OwnWritten w M s g) (λ g c a b p q same. own_in w M s (set_of w g) g hs refl o.followed all c a b p q same) gs o.first

-- what stands in a fragment is an own field of one that a search opens
tell_in : (w : World) (t g : ℕ) (hs : List ℕ) → t ≡ set_of w g → ((h k : ℕ) → Contains hs h → Contains (spreads_of w (set_of w h)) k → Contains hs k)
    → Contains hs g → (b : Entry) → Stands w t b → (h : ℕ) × Contains hs h × Contains (own_of w (set_of w h)) b
tell_in w t g hs is followed c b (own q) = (g, c, subst (λ u. Contains (own_of w u) b) is q)
tell_in w t g hs is followed c b (spread {f = h} v q) = tell_in w (set_of w h) h hs refl followed (followed g h c (subst (λ u. Contains (spreads_of w u) h) is v)) b q

pub tell_written : (w : World) (s : ℕ) (gs hs : List ℕ) → Opens w gs hs → (r : Root) → AtSpreads w s gs r → (h : ℕ) × Contains hs h × AtOwn w s (set_of w h) r
tell_written w s gs hs o r at =
    let z = tell_in w (set_of w at.0) at.0 hs refl o.followed (All-contains (λ g. Contains hs g) gs at.0 o.first at.1) r.right at.2.1 in
    (z.0, z.1, (at.2.0, z.2, at.2.2))

-- what was opened from some stands in one of them
pub row_written : (w : World) (s h : ℕ) (gs : List ℕ) → ReachedFrom w gs h → (r : Root) → AtOwn w s (set_of w h) r → AtSpreads w s gs r
row_written w s h gs from r z = (from.0, from.1, row_opened w s from.0 h from.2 r z)
