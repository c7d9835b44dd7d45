-- How many pairs of fragments are compared.
use Rattle.std.proofs.Common.{◌≡◌, ℕ, zero, suc, ◌+◌, ◌-◌, ◌*◌, ◌^◌, ◌<◌, ◌≤◌, min, max, List, [], ◌∷◌, length, map, refl, sym, subst, ap, ◌∙◌, arith, Bool, false, true, inl, inr, ◌⊎◌, Some, slice_get, get_or}
use Rattle.std.specs.List.{All, Contains}
use Rattle.std.proofs.lemmas.List.Elements.{All-head, All-tail, All-get_or, All-contains, All-map, All-nil, All-cons, Contains-append_right}
use Rattle.std.proofs.lemmas.List.{length-map}
use Rattle.std.proofs.lemmas.Option.{slice_get-get_or, slice_get_within, get_or_from_slice_get}
use Rattle.std.proofs.Math.Nat.{mul-le-mul_left}
use Rattle.std.proofs.lemmas.Bool.{cases_order}
use Rattle.merge_search.specs.declared.state.Search.{Search}
use Rattle.merge_sets.specs.World.{World, spreads_of}
use Rattle.merge_search.specs.Work.{Pair}
use Rattle.merge_search.specs.Counts.{Compared, Distinct, Repeats, Tally, greatest}
use Rattle.merge_sets.specs.Opening.{NoRepeats}
use Rattle.merge_tops.specs.Tops.{SamePair, Together, Top}
use Rattle.merge_sets.proofs.Distinct.{few_below}
use Rattle.merge_search.proofs.Flips.{flip_pair}
use Rattle.merge_sets.proofs.Laws.{same_some}

place_inj : (m a b c d : ℕ) → b < m → d < m → m * a + b ≡ m * c + d → (a ≡ c) × (b ≡ d)
place_inj m a b c d lb ld e = elim (cases_order a c) [
  | inl eq ↦ (eq, omega (arith, lb, ld, subst (λ (x : ℕ). m * a + b ≡ m * x + d) (sym eq) e))
  | inr o ↦ elim o [
    | inl l ↦ absurd (omega (arith, mul-le-mul_left m l, e, lb, ld))
    | inr g ↦ absurd (omega (arith, mul-le-mul_left m g, e, lb, ld))
  ]
]

abbrev pub high : Compared → ℕ
high r = max r.first r.second

abbrev pub low : Compared → ℕ
low r = min r.first r.second

abbrev pub code_at : ℕ → Bool → ℕ → ℕ → ℕ
code_at m false lo hi = m * lo + (hi - 1)
code_at m true lo hi = m * hi + lo

abbrev pub code_of : ℕ → Compared → ℕ
code_of m r = code_at m r.flag (low r) (high r)

codes_apart : (m : ℕ) (e x : Bool) (lo hi lo' hi' : ℕ) → lo < hi → hi < m + 1 → lo' < hi' → hi' < m + 1
    → code_at m e lo hi ≡ code_at m x lo' hi' → (e ≡ x) × (lo ≡ lo') × (hi ≡ hi')
codes_apart m false false lo hi lo' hi' l h l' h' e =
    let z = place_inj m lo (hi - 1) lo' (hi' - 1) (omega (arith, l, h)) (omega (arith, l', h')) e in (refl, z.0, omega (arith, z.1, l, l'))
codes_apart m true true lo hi lo' hi' l h l' h' e =
    let z = place_inj m hi lo hi' lo' (omega (arith, l, h)) (omega (arith, l', h')) e in (refl, z.1, z.0)
codes_apart m false true lo hi lo' hi' l h l' h' e =
    let z = place_inj m lo (hi - 1) hi' lo' (omega (arith, l, h)) (omega (arith, l', h')) e in absurd (omega (arith, z.0, z.1, l, l'))
codes_apart m true false lo hi lo' hi' l h l' h' e =
    let z = place_inj m hi lo lo' (hi' - 1) (omega (arith, l, h)) (omega (arith, l', h')) e in absurd (omega (arith, z.0, z.1, l, l'))

same_pair : (f g f' g' : ℕ) → min f g ≡ min f' g' → max f g ≡ max f' g' → ((f ≡ f') × (g ≡ g')) ⊎ ((f ≡ g') × (g ≡ f'))
same_pair f g f' g' p q = elim (cases_order f f') [
  | inl eq ↦ inl (eq, omega (arith, p, q, eq))
  | inr o ↦ inr (elim o [ inl l ↦ (omega (arith, p, q, l), omega (arith, p, q, l)) | inr l ↦ (omega (arith, p, q, l), omega (arith, p, q, l)) ])
]

below_at : (m : ℕ) (e : Bool) (lo hi : ℕ) → lo < hi → hi < m + 1 → code_at m e lo hi < (m + 1) * m
below_at m false lo hi l h = let up : lo + 1 ≤ m = omega (arith, l, h) in omega (arith, mul-le-mul_left m up, l, h)
below_at m true lo hi l h = let up : hi ≤ m = omega (arith, h) in omega (arith, mul-le-mul_left m up, l, h)

-- Different records have different codes.
pub codes_differ : (m : ℕ) (r q : Compared) → (r.first ≡ r.second → ⊥) → (q.first ≡ q.second → ⊥)
    → high r < m + 1 → high q < m + 1 → (Repeats r q → ⊥) → code_of m r ≡ code_of m q → ⊥
codes_differ m r q nr nq hr hq apart e =
    let lr : low r < high r = omega (arith, nr) in
    let lq : low q < high q = omega (arith, nq) in
    let z = codes_apart m r.flag q.flag (low r) (high r) (low q) (high q) lr hr lq hq e in
    apart (z.0, same_pair r.first r.second q.first q.second z.1 z.2)

pub code_below : (m : ℕ) (r : Compared) → (r.first ≡ r.second → ⊥) → high r < m + 1 → code_of m r < (m + 1) * m
code_below m r nr hr = below_at m r.flag (low r) (high r) (omega (arith, nr)) hr

mapped : (m : ℕ) (rs : List Compared) (k x : ℕ) → slice_get (map (λ r. code_of m r) rs) k ≡ Some x → (r : Compared) × (slice_get rs k ≡ Some r) × (code_of m r ≡ x)
mapped m [] k x p = absurd (omega (arith, slice_get_within [] k x p))
mapped m (r ∷ rs) zero x p = (r, refl, same_some (code_of m r) x (Some (code_of m r)) refl p)
mapped m (r ∷ rs) (suc k) x p = mapped m rs k x p

member : (log : List Compared) (k : ℕ) (r : Compared) → slice_get log k ≡ Some r → (P : Compared → Type 0) → All P log → P r
member log k r p P all = All-contains P log r all (k, slice_get_within log k r p, get_or_from_slice_get log k r r p)

codes_once : (m : ℕ) (log : List Compared) → Distinct log → All (λ r. high r < m + 1) log → NoRepeats (map (λ r. code_of m r) log)
codes_once m log d h k l x lt p q =
    let a = mapped m log k x p in
    let b = mapped m log l x q in
    codes_differ m (a.0) (b.0) (member log k (a.0) a.1 (λ r. r.first ≡ r.second → ⊥) d.different) (member log l (b.0) b.1 (λ r. r.first ≡ r.second → ⊥) d.different)
    (member log k (a.0) a.1 (λ r. high r < m + 1) h) (member log l (b.0) b.1 (λ r. high r < m + 1) h) (λ same. d.apart k l (a.0) (b.0) lt a.1 b.1 same) (a.2 ∙ sym b.2)

both_below : (n : ℕ) (r : Compared) → (r.first < n) × (r.second < n) → high r < n
both_below n r h = omega (arith, h.0, h.1)

counted : (m : ℕ) (log : List Compared) → Distinct log → All (λ r. high r < m + 1) log → length log ≤ (m + 1) * m
counted m log d h =
    subst (λ (k : ℕ). k ≤ (m + 1) * m) (length-map log (λ r. code_of m r))
    (few_below (map (λ r. code_of m r) log) ((m + 1) * m) (codes_once m log d h)
    (All-map (λ y. y < (m + 1) * m) (λ q. code_of m q) log
    (λ k e l. code_below m (get_or log k e) (All-get_or (λ x. x.first ≡ x.second → ⊥) log k e l d.different) (All-get_or (λ x. high x < m + 1) log k e l h))))

no_log : (log : List Compared) → All (λ r. (r.first < 0) × (r.second < 0)) log → length log ≤ 0
no_log [] h = omega arith
no_log (r ∷ rs) h = absurd (omega (arith, (All-head (λ x. (x.first < 0) × (x.second < 0)) r rs h).0))

few_pairs : (n : ℕ) (log : List Compared) → Distinct log → All (λ r. (r.first < n) × (r.second < n)) log → length log ≤ n * (n - 1)
few_pairs zero log d h = omega (arith, no_log log h)
few_pairs (suc m) log d h = subst (λ (k : ℕ). length log ≤ k * (k - 1)) (one_more m) (subst (λ (k : ℕ). length log ≤ (m + 1) * k) (back m) (counted m log d (λ k e l. below (get_or log k e) (h k e l))))
  where
    one_more : (m : ℕ) → m + 1 ≡ suc m
    one_more m = omega arith

    back : (m : ℕ) → m ≡ (m + 1) - 1
    back m = omega arith

    below : (r : Compared) → (r.first < suc m) × (r.second < suc m) → high r < m + 1
    below r z = omega (arith, z.0, z.1)

-- Counts of a machine's lists are below the greatest.
pub small_square : (n : ℕ) → n < 2 ^ 63 → n * (n - 1) ≤ greatest
small_square n l = let up : n - 1 ≤ 2 ^ 63 = omega (arith, l) in omega (arith, mul-le-mul_left n up, l)

-- The upper bound.
pub at_most : (w : World) (s : Search) → Tally w s → s.compared ≤ length w.fragments * (length w.fragments - 1)
at_most w s t = omega (arith, t.counted, few_pairs (length w.fragments) t.log t.distinct t.within)

abbrev pub IsPair : Compared → ℕ × ℕ → Type 0
IsPair r p = SamePair (r.first, r.second) p

-- Each pair stands in the log.
abbrev pub InLog : List Compared → ℕ × ℕ → Type 0
InLog log p = (r : Compared) × Contains log r × IsPair r p

chained : (a b c : ℕ × ℕ) → SamePair a b → SamePair a c → SamePair b c
chained a b c (inl p) (inl q) = inl (sym p.0 ∙ q.0, sym p.1 ∙ q.1)
chained a b c (inl p) (inr q) = inr (sym p.0 ∙ q.0, sym p.1 ∙ q.1)
chained a b c (inr p) (inl q) = inr (sym p.1 ∙ q.1, sym p.0 ∙ q.0)
chained a b c (inr p) (inr q) = inl (sym p.1 ∙ q.1, sym p.0 ∙ q.0)

-- The places of the pairs in the log.
pub record Placed (log : List Compared) (ps : List (ℕ × ℕ)) : Type 0 where
  pub places : List ℕ
  pub as_many : length places ≡ length ps
  pub once : NoRepeats places
  pub inside : All (λ k. k < length log) places
  pub each : (k : ℕ) → Contains places k → (r : Compared) × (p : ℕ × ℕ) × (slice_get log k ≡ Some r) × Contains ps p × IsPair r p

abbrev pub Once : List (ℕ × ℕ) → Type 0
Once ps = (k l : ℕ) (p q : ℕ × ℕ) → k < l → slice_get ps k ≡ Some p → slice_get ps l ≡ Some q → SamePair p q → ⊥

repeats_cons : (x : ℕ) (xs : List ℕ) → NoRepeats xs → (Contains xs x → ⊥) → NoRepeats (x ∷ xs)
repeats_cons x xs d fresh zero zero y lt p q = absurd (omega (arith, lt))
repeats_cons x xs d fresh zero (suc l) y lt p q = fresh (subst (λ (z : ℕ). Contains xs z) (sym (same_some x y (Some x) refl p)) (l, slice_get_within xs l y q, get_or_from_slice_get xs l y y q))
repeats_cons x xs d fresh (suc k) zero y lt p q = absurd (omega (arith, lt))
repeats_cons x xs d fresh (suc k) (suc l) y lt p q = d k l y (omega (arith, lt)) p q

in_cons : {X : Type 0} (x : X) (xs : List X) (y : X) → Contains (x ∷ xs) y → (x ≡ y) ⊎ Contains xs y
in_cons x xs y (zero, l, eq) = inl eq
in_cons x xs y (suc k, l, eq) = inr (k, omega (arith, l), eq)

placed : (log : List Compared) (ps : List (ℕ × ℕ)) → Once ps → All (InLog log) ps → Placed log ps
placed log [] once h = record { places = []; as_many = refl; once = λ k l x lt p q. absurd (omega (arith, slice_get_within [] k x p)); inside = All-nil (λ k. k < length log); each = λ k c. absurd (omega (arith, c.1)) }
placed log (p ∷ ps) once h =
    let rest : Placed log ps = placed log ps (λ k l a b lt x y same. once (suc k) (suc l) a b (omega (arith, lt)) x y same) (All-tail (InLog log) p ps h) in
    let here : InLog log p = All-head (InLog log) p ps h in
    let k = here.1.0 in
    let at : slice_get log k ≡ Some (here.0) = slice_get-get_or log k (here.0) here.1.1 ∙ ap (λ y. Some y) here.1.2 in
    record {
      places = k ∷ rest.places;
      as_many = ap (λ (m : ℕ). suc m) rest.as_many;
      once = repeats_cons k rest.places rest.once (λ c.
          let z = rest.each k c in
          let same : z.0 ≡ here.0 = same_some (z.0) (here.0) (slice_get log k) z.2 at in
          let q = z.1 in
          once 0 (suc (z.3.0)) p q (omega arith) refl (slice_get-get_or ps (z.3.0) q z.3.1 ∙ ap (λ y. Some y) z.3.2)
          (chained (here.0.first, here.0.second) p q here.2 (subst (λ (r : Compared). IsPair r q) same z.4)));
      inside = All-cons (λ i. i < length log) k rest.places here.1.1 rest.inside;
      each = λ i c. elim (in_cons k rest.places i c) [
        | inl is ↦ (here.0, p, subst (λ (j : ℕ). slice_get log j ≡ Some (here.0)) is at, (0, omega arith, refl), here.2)
        | inr old ↦ let z = rest.each i old in (z.0, z.1, z.2, Contains-append_right (p ∷ []) ps (z.1) z.3, z.4)
      ];
    }

in_log_pair : (w : World) (s : Search) (t : Tally w s) (f g : ℕ) → (f ≡ g → ⊥) → Pair s false f g → InLog t.log (f, g)
in_log_pair w s t f g ne (inl eq) = absurd (ne eq)
in_log_pair w s t f g ne (inr c) = elim (t.listed c.0 f g c.2) [
  | inl x ↦ (record { first = f; second = g; flag = c.0 }, x, inl (refl, refl))
  | inr x ↦ (record { first = g; second = f; flag = c.0 }, x, inr (refl, refl))
]

-- Two spreads of a set are compared.
spread_pair : (w : World) (s : Search) (order : List ℕ) → ((i : ℕ) → Contains order i → Top w s i) → (i f g : ℕ) → Contains order i → Contains (spreads_of w i) f → Contains (spreads_of w i) g → (f ≡ g → ⊥) → Pair s false f g
spread_pair w s order top i f g c p q ne = elim (cases_order p.0 q.0) [
  | inl eq ↦ absurd (ne (same_some f g (slice_get (spreads_of w i) p.0) (at p) (subst (λ k. slice_get (spreads_of w i) k ≡ Some g) (sym eq) (at q))))
  | inr lt ↦ elim lt [
    | inl l ↦ (top i c).2 p.0 q.0 f g l (at p) (at q)
    | inr l ↦ flip_pair s false g f ((top i c).2 q.0 p.0 g f l (at q) (at p))
  ]
]
  where
    at : {x : ℕ} (c : Contains (spreads_of w i) x) → slice_get (spreads_of w i) c.0 ≡ Some x
    at {x} c = slice_get-get_or (spreads_of w i) c.0 x c.1 ∙ ap (λ y. Some y) c.2

-- The lower bound.
pub at_least : (w : World) (s : Search) (order : List ℕ) → ((i : ℕ) → Contains order i → Top w s i) → (t : Tally w s) → length w.fragments * (length w.fragments - 1) ≤ greatest → (ps : List (ℕ × ℕ)) → Together w order ps → length ps ≤ s.compared
at_least w s order top t small ps h =
    let n = length w.fragments in
    let z : Placed t.log ps = placed t.log ps h.once (λ k d l.
    let p = get_or ps k d in let u = h.spread k d l in
    in_log_pair w s t (p.0) (p.1) u.0 (spread_pair w s order top u.1.0 (p.0) (p.1) u.1.1 u.1.2 u.1.3 u.0)) in
    omega (arith, z.as_many, few_below z.places (length t.log) z.once z.inside, t.counted, few_pairs n t.log t.distinct t.within, small)
