-- How counts grow.
use Rattle.std.proofs.Common.{◌≡◌, ℕ, ◌+◌, ◌*◌, ◌<◌, ◌≤◌, List, [], ◌∷◌, ◌++◌, length, min, refl, sym, subst, ap, arith, Bool, true, false, Some, inl, inr, ◌⊎◌, zero, suc, Option, slice_get, ◌∙◌, length-append}
use Rattle.std.specs.Prelude.{sum_by}
use Rattle.std.specs.List.{Contains}
use Rattle.std.proofs.lemmas.Option.{slice_get_within, get_or_from_slice_get}
use Rattle.std.proofs.lemmas.Bool.{cases_order}
use Rattle.std.proofs.lemmas.List.Sums.{sum_by-cons}
use Rattle.std.proofs.lemmas.List.Elements.{All-contains, All-push, All-nil, All-weaker, Contains-push, Contains-append_left}
use Rattle.merge_sets.specs.World.{World}
use Rattle.merge_search.specs.declared.log.Log.{Log}
use Rattle.merge_search.specs.declared.state.Search.{Search}
use Rattle.merge_search.specs.Questions.{sum_below, worth}
use Rattle.merge_search.specs.Opened.{OpensBelow}
use Rattle.merge_search.specs.Log.{in_log}
use Rattle.merge_search.specs.Work.{pair_in}
use Rattle.merge_search.specs.Counts.{Compared, Repeats, Distinct, Tally, asked, greatest, most_repeats, spread_count}
use Rattle.merge_search.specs.State.{NotesPair, CountsList, Begins}
use Rattle.merge_search.proofs.Flips.{flip_in}
use Rattle.merge_sets.proofs.Laws.{clash}

get_front : {X : Type 0} (xs ys : List X) (n : ℕ) → n < length xs → slice_get (xs ++ ys) n ≡ slice_get xs n
get_front [] ys n l = absurd (omega (arith, l))
get_front (x ∷ xs) ys zero l = refl
get_front (x ∷ xs) ys (suc n) l = get_front xs ys n (omega (arith, l))

get_last : {X : Type 0} (xs : List X) (x : X) → slice_get (xs ++ x ∷ []) (length xs) ≡ Some x
get_last [] x = refl
get_last (y ∷ xs) x = get_last xs x

same_item : {X : Type 0} (x y : X) (o : Option X) → o ≡ Some x → o ≡ Some y → x ≡ y
same_item x y o h k = cc

at_index : (log : List Compared) (k : ℕ) (r : Compared) → slice_get log k ≡ Some r → Contains log r
at_index log k r p = (k, slice_get_within log k r p, get_or_from_slice_get log k r r p)

pub distinct_push : (log : List Compared) (new : Compared) → Distinct log → (new.first ≡ new.second → ⊥)
    → ((r : Compared) → Contains log r → Repeats r new → ⊥) → Distinct (log ++ new ∷ [])
distinct_push log new d ne fresh = record {
  different = All-push (λ r. r.first ≡ r.second → ⊥) log new d.different ne;
  apart = λ k l r q lt p h same.
      let inside : l < length (log ++ new ∷ []) = slice_get_within (log ++ new ∷ []) l q h in
      let short : k < length log = omega (arith, inside, lt, length-append log (new ∷ [])) in
      let first : slice_get log k ≡ Some r = sym (get_front log (new ∷ []) k short) ∙ p in
      elim (cases_order l (length log)) [
        | inl eq ↦
            let is : new ≡ q = same_item new q (slice_get (log ++ new ∷ []) l) (subst (λ (i : ℕ). slice_get (log ++ new ∷ []) i ≡ Some new) (sym eq) (get_last log new)) h in
            fresh r (at_index log k r first) (subst (λ (z : Compared). Repeats r z) (sym is) same)
        | inr o ↦ elim o [
          | inl less ↦ d.apart k l r q lt first (sym (get_front log (new ∷ []) l less) ∙ h) same
          | inr more ↦ omega (arith, inside, more, length-append log (new ∷ []))
        ]
      ];
}

-- what the searches below fields come to, by what was asked
abbrev asked_of : World → (ℕ → ℕ) → Log → ℕ → ℕ
asked_of w g l k =
    worth (length w.sets) (length w.fragments) (λ i. 1) g (λ i h. in_log l false i h) + worth (length w.sets) (length w.fragments) (λ i. 1) g (λ i h. in_log l true i h)
    + sum_below g (length w.fragments) * min k most_repeats

pub asked_same : (w : World) (g : ℕ → ℕ) (s t : Search) → t.searched ≡ s.searched → t.repeated ≡ s.repeated → asked w g t ≡ asked w g s
asked_same w g s t p r = ap (λ (l : Log). asked_of w g l t.repeated) p ∙ ap (λ (k : ℕ). asked_of w g s.searched k) r

pub no_tally : (w : World) (n : ℕ) (s : Search) → Begins n s → Tally w s
no_tally w n s b = record {
  log = [];
  distinct = record { apart = λ k l r q lt p h same. cc; different = All-nil (λ r. r.first ≡ r.second → ⊥) };
  within = All-nil (λ r. (r.first < length w.fragments) × (r.second < length w.fragments));
  counted = subst (λ (k : ℕ). k ≡ min 0 greatest) (sym b.compared) refl;
  recorded = All-nil (λ r. pair_in s r.flag r.first r.second ≡ true);
  listed = λ x f g h. absurd (clash (pair_in s x f g) h (b.pairs x f g));
  opened = omega (arith, b.opened);
  linear = omega (arith, b.opened);
  looked = omega (arith, b.looked);
}

at_most_same : (a b c d : ℕ) → a ≡ b → c ≡ d → b ≤ d → a ≤ c
at_most_same a b c d p q le = omega (arith, p, q, le)

-- The counts of the pairs stay, and what searches opened is bounded still.
pub tally_with : {w : World} {s t : Search} → t.pairs ≡ s.pairs → t.compared ≡ s.compared → (s.opened ≤ length w.fragments * s.lists → t.opened ≤ length w.fragments * t.lists)
    → (s.opened ≤ asked w (λ h. 1) s → t.opened ≤ asked w (λ h. 1) t) → (s.looked ≤ asked w (spread_count w) s → t.looked ≤ asked w (spread_count w) t) → Tally w s → Tally w t
tally_with {w} {s} {t} ps cs opened linear looked h =
    let known : (x : Bool) (f g : ℕ) → pair_in s x f g ≡ true → pair_in t x f g ≡ true =
    λ x f g z. subst (λ l. in_log l x (Rattle.std.proofs.Common.max f g) (min f g) ≡ true) (sym ps) z in
    record {
      log = h.log;
      distinct = h.distinct;
      within = h.within;
      counted = cs ∙ h.counted;
      recorded = All-weaker (λ r. pair_in s r.flag r.first r.second ≡ true) (λ r. pair_in t r.flag r.first r.second ≡ true) (λ r z. known r.flag r.first r.second z) h.log h.recorded;
      listed = λ x f g z. h.listed x f g (subst (λ l. in_log l x (Rattle.std.proofs.Common.max f g) (min f g) ≡ true) ps z);
      opened = opened h.opened;
      linear = linear h.linear;
      looked = looked h.looked;
    }

-- What is counted stays.
module _ (w : World) (s t : Search) (searched : t.searched ≡ s.searched) (repeated : t.repeated ≡ s.repeated) (opened : t.opened ≡ s.opened) where
  pub opened_same : t.lists ≡ s.lists → s.opened ≤ length w.fragments * s.lists → t.opened ≤ length w.fragments * t.lists
  opened_same lists o = subst (λ (k : ℕ). k ≤ length w.fragments * t.lists) (sym opened) (subst (λ (k : ℕ). s.opened ≤ length w.fragments * k) (sym lists) o)

  pub linear_same : s.opened ≤ asked w (λ h. 1) s → t.opened ≤ asked w (λ h. 1) t
  linear_same o = at_most_same t.opened s.opened (asked w (λ h. 1) t) (asked w (λ h. 1) s) opened (asked_same w (λ h. 1) s t searched repeated) o

  pub looked_same : t.looked ≡ s.looked → s.looked ≤ asked w (spread_count w) s → t.looked ≤ asked w (spread_count w) t
  looked_same looked o = at_most_same t.looked s.looked (asked w (spread_count w) t) (asked w (spread_count w) s) looked (asked_same w (spread_count w) s t searched repeated) o

  pub tally_same : t.pairs ≡ s.pairs → t.compared ≡ s.compared → t.lists ≡ s.lists → t.looked ≡ s.looked → Tally w s → Tally w t
  tally_same ps cs lists looked h = tally_with ps cs (opened_same lists) linear_same (looked_same looked) h

capped_more : (l g : ℕ) → min (min l g + 1) g ≡ min (l + 1) g
capped_more l g = omega arith

not_repeated : (s : Search) (e : Bool) (f g : ℕ) (r : Compared) → (pair_in s e f g ≡ true → ⊥) → pair_in s r.flag r.first r.second ≡ true
    → Repeats r (record { first = f; second = g; flag = e }) → ⊥
not_repeated s e f g r fresh h same = elim same.1 [
  | inl p ↦ fresh (subst (λ (x : Bool). pair_in s x f g ≡ true) same.0 (subst (λ (i : ℕ). pair_in s r.flag i g ≡ true) p.0 (subst (λ (j : ℕ). pair_in s r.flag r.first j ≡ true) p.1 h)))
  | inr p ↦ fresh (flip_in s e g f (subst (λ (x : Bool). pair_in s x g f ≡ true) same.0 (subst (λ (i : ℕ). pair_in s r.flag i f ≡ true) p.0 (subst (λ (j : ℕ). pair_in s r.flag r.first j ≡ true) p.1 h))))
]

listed_new : (log : List Compared) (e x : Bool) (f g i j : ℕ) → (x ≡ e) × (((i ≡ f) × (j ≡ g)) ⊎ ((i ≡ g) × (j ≡ f)))
    → Contains (log ++ record { first = f; second = g; flag = e } ∷ []) (record { first = i; second = j; flag = x })
    ⊎ Contains (log ++ record { first = f; second = g; flag = e } ∷ []) (record { first = j; second = i; flag = x })
listed_new log e x f g i j (is, inl p) = inl (subst (λ (y : Bool). Contains (log ++ record { first = f; second = g; flag = e } ∷ []) (record { first = i; second = j; flag = y })) (sym is)
    (subst (λ (k : ℕ). Contains (log ++ record { first = f; second = g; flag = e } ∷ []) (record { first = k; second = j; flag = e })) (sym p.0)
    (subst (λ (k : ℕ). Contains (log ++ record { first = f; second = g; flag = e } ∷ []) (record { first = f; second = k; flag = e })) (sym p.1) (Contains-push log (record { first = f; second = g; flag = e })))))
listed_new log e x f g i j (is, inr p) = inr (subst (λ (y : Bool). Contains (log ++ record { first = f; second = g; flag = e } ∷ []) (record { first = j; second = i; flag = y })) (sym is)
    (subst (λ (k : ℕ). Contains (log ++ record { first = f; second = g; flag = e } ∷ []) (record { first = k; second = i; flag = e })) (sym p.1)
    (subst (λ (k : ℕ). Contains (log ++ record { first = f; second = g; flag = e } ∷ []) (record { first = f; second = k; flag = e })) (sym p.0) (Contains-push log (record { first = f; second = g; flag = e })))))

pub either_more : (log : List Compared) (new a b : Compared) → Contains log a ⊎ Contains log b → Contains (log ++ new ∷ []) a ⊎ Contains (log ++ new ∷ []) b
either_more log new a b (inl c) = inl (Contains-append_left log (new ∷ []) a c)
either_more log new a b (inr c) = inr (Contains-append_left log (new ∷ []) b c)

pub listed_more : (log : List Compared) (e x : Bool) (f g i j : ℕ)
    → (Contains log (record { first = i; second = j; flag = x }) ⊎ Contains log (record { first = j; second = i; flag = x })) ⊎ ((x ≡ e) × (((i ≡ f) × (j ≡ g)) ⊎ ((i ≡ g) × (j ≡ f))))
    → Contains (log ++ record { first = f; second = g; flag = e } ∷ []) (record { first = i; second = j; flag = x })
    ⊎ Contains (log ++ record { first = f; second = g; flag = e } ∷ []) (record { first = j; second = i; flag = x })
listed_more log e x f g i j (inl c) = either_more log (record { first = f; second = g; flag = e }) (record { first = i; second = j; flag = x }) (record { first = j; second = i; flag = x }) c
listed_more log e x f g i j (inr p) = listed_new log e x f g i j p

pub tally_pair : {w : World} {f g : ℕ} {e : Bool} {s t : Search} → NotesPair f g e s t → (f ≡ g → ⊥) → f < length w.fragments → g < length w.fragments
    → (pair_in s e f g ≡ true → ⊥) → Tally w s → Tally w t
tally_pair {w} {f} {g} {e} {s} {t} d ne lf lg fresh h =
    let new : Compared = record { first = f; second = g; flag = e } in
    record {
      log = h.log ++ new ∷ [];
      distinct = distinct_push h.log new h.distinct ne
          (λ r c same. not_repeated s e f g r fresh (All-contains (λ q. pair_in s q.flag q.first q.second ≡ true) h.log r h.recorded c) same);
      within = All-push (λ r. (r.first < length w.fragments) × (r.second < length w.fragments)) h.log new h.within (lf, lg);
      counted = d.compared ∙ (subst (λ (k : ℕ). min (k + 1) greatest ≡ min (min (length h.log) greatest + 1) greatest) (sym h.counted) refl
          ∙ (capped_more (length h.log) greatest ∙ subst (λ (k : ℕ). min (length h.log + 1) greatest ≡ min k greatest) (sym (length-append h.log (new ∷ []))) refl));
      recorded = All-push (λ r. pair_in t r.flag r.first r.second ≡ true) h.log new
          (All-weaker (λ r. pair_in s r.flag r.first r.second ≡ true) (λ r. pair_in t r.flag r.first r.second ≡ true) (λ r z. d.notes.kept r.flag r.first r.second z) h.log h.recorded) d.notes.noted;
      listed = λ x i j z. listed_more h.log e x f g i j (elim (d.notes.only x i j z) [ inl old ↦ inl (h.listed x i j old) | inr p ↦ inr p ]);
      opened = opened_same w s t d.searched d.repeated d.opened d.lists h.opened;
      linear = linear_same w s t d.searched d.repeated d.opened h.linear;
      looked = looked_same w s t d.searched d.repeated d.opened d.looked h.looked;
    }

-- one list more, of so many at most
pub lists_more : (n k o l p m : ℕ) → k ≤ n → p ≡ min (o + k) greatest → m ≡ min (l + 1) greatest → o ≤ n * l → p ≤ n * m
lists_more n k o l p m le po ml h = elim (cases_order (l + 1) greatest) [
  | inl eq ↦ full (omega (arith, ml, eq))
  | inr c ↦ elim c [
    | inl less ↦ let is : m ≡ l + 1 = omega (arith, ml, less) in subst (λ (z : ℕ). p ≤ n * z) (sym is) (omega (arith, po, h, le))
    | inr more ↦ full (omega (arith, ml, more))
  ]
]
  where
    some : 0 < n → p ≤ n * greatest
    some pos = omega (arith, po, pos)

    none : n ≡ 0 → p ≤ n * greatest
    none is = let nothing : o ≤ 0 * l = subst (λ (z : ℕ). o ≤ z * l) is h in omega (arith, po, nothing, le, is)

    full : m ≡ greatest → p ≤ n * m
    full is = subst (λ (z : ℕ). p ≤ n * z) (sym is) (elim (cases_order n 0) [
      | inl zero_is ↦ none zero_is
      | inr c ↦ elim c [ inl less ↦ absurd (omega (arith, less)) | inr more ↦ some more ]
    ])

ones : (hs : List ℕ) → sum_by (λ (h : ℕ). 1) hs ≡ length hs
ones [] = refl
ones (h ∷ hs) = omega (arith, sum_by-cons (λ (x : ℕ). 1) h hs, ones hs)

-- a search below a field opened fragments, and was counted
pub tally_opened : {w : World} {e : Bool} {i g : ℕ} {hs : List ℕ} {s t u : Search} → OpensBelow w e i g hs s t → CountsList (length hs) (min (sum_by (spread_count w) hs) greatest) t u
    → Tally w s → Tally w u
tally_opened {w} {e} {i} {g} {hs} {s} {t} {u} o c h =
    let a = o.asks in
    let same : (m : ℕ → ℕ) → asked w m u ≡ asked w m t = λ m. asked_same w m t u c.searched c.repeated in
    tally_with (c.pairs ∙ a.pairs) (c.compared ∙ a.compared)
    (λ old. lists_more (length w.fragments) (length hs) t.opened t.lists u.opened u.lists o.few c.opened c.lists
    (subst (λ (k : ℕ). k ≤ length w.fragments * t.lists) (sym a.opened) (subst (λ (k : ℕ). s.opened ≤ length w.fragments * k) (sym a.lists) old)))
    (λ old. omega (arith, c.opened, a.opened, old, a.counts (λ k. 1), ones hs, same (λ k. 1)))
    (λ old. omega (arith, c.looked, a.looked, old, a.counts (spread_count w), same (spread_count w))) h
