-- What the questions of a search pay.
use Rattle.std.proofs.Common.{◌≡◌, ◌⊎◌, ◌+◌, ◌*◌, ◌-◌, ◌<◌, ◌≤◌, ℕ, zero, suc, Bool, true, false, cond, inl, inr, ap, arith, length, max, min, refl, subst, sym}
use Rattle.std.proofs.lemmas.Bool.{cases_order}
use Rattle.std.proofs.lemmas.Nat.{mul-le}
use Rattle.merge_search.specs.declared.state.Search.{Search}
use Rattle.merge_search.specs.Counts.{asked, most_repeats}
use Rattle.merge_search.specs.Log.{covers_of, in_log}
use Rattle.merge_search.specs.Spending.{MayAsk, Spends, credit, fragments_weight, pairs_worth, repeat_cost, searches_worth, sets_weight, sum_below, worth}
use Rattle.merge_search.specs.State.{NotesBelow, NotesPair, NotesSearch}
use Rattle.merge_search.specs.Weight.{fragment_weight, weight}
use Rattle.merge_search.specs.Work.{pair_in, search_in}
use Rattle.merge_sets.specs.World.{World}
use Rattle.merge_search.proofs.Weights.{lt_or_le}
use Rattle.merge_sets.proofs.Laws.{clash}
use Rattle.merge_search.proofs.Work.{covers_no}

pub sum_kept : (f g : ℕ → ℕ) (n : ℕ) → ((i : ℕ) → f i ≤ g i) → sum_below f n ≤ sum_below g n
sum_kept f g zero le = omega arith
sum_kept f g (suc n) le = omega (arith, sum_kept f g n le, le n)

pub sum_more : (f g : ℕ → ℕ) (n k d : ℕ) → ((i : ℕ) → f i ≤ g i) → k < n → f k + d ≤ g k → sum_below f n + d ≤ sum_below g n
sum_more f g zero k d le less here = absurd (omega (arith, less))
sum_more f g (suc n) k d le less here = elim (cases_order k n) [
  | inl eq ↦ omega (arith, sum_kept f g n le, subst (λ (i : ℕ). f i + d ≤ g i) eq here)
  | inr o ↦ elim o [
    | inl l ↦ omega (arith, sum_more f g n k d le l here, le n)
    | inr l ↦ absurd (omega (arith, less, l))
  ]
]

cond_kept : (a b : Bool) (x : ℕ) → (a ≡ true → b ≡ true) → cond a x 0 ≤ cond b x 0
cond_kept true true x h = omega arith
cond_kept true false x h = let z = h refl in cc
cond_kept false true x h = omega arith
cond_kept false false x h = omega arith

cond_more : (a b : Bool) (x : ℕ) → a ≡ false → b ≡ true → cond a x 0 + x ≤ cond b x 0
cond_more true b x p q = cc
cond_more false true x p q = omega arith
cond_more false false x p q = cc

module _ (m n : ℕ) (f g : ℕ → ℕ) (old new : ℕ → ℕ → Bool) (kept : (i k : ℕ) → old i k ≡ true → new i k ≡ true) where
  row_kept : (i : ℕ) → sum_below (λ k. cond (old i k) (f i * g k) 0) n ≤ sum_below (λ k. cond (new i k) (f i * g k) 0) n
  row_kept i = sum_kept (λ k. cond (old i k) (f i * g k) 0) (λ k. cond (new i k) (f i * g k) 0) n (λ k. cond_kept (old i k) (new i k) (f i * g k) (kept i k))

  pub worth_kept : worth m n f g old ≤ worth m n f g new
  worth_kept = sum_kept (λ i. sum_below (λ k. cond (old i k) (f i * g k) 0) n) (λ i. sum_below (λ k. cond (new i k) (f i * g k) 0) n) m row_kept

  pub worth_more : (i k : ℕ) → i < m → k < n → old i k ≡ false → new i k ≡ true → worth m n f g old + f i * g k ≤ worth m n f g new
  worth_more i k li lk was is =
      sum_more (λ i. sum_below (λ k. cond (old i k) (f i * g k) 0) n) (λ i. sum_below (λ k. cond (new i k) (f i * g k) 0) n) m i (f i * g k) row_kept li
      (sum_more (λ k. cond (old i k) (f i * g k) 0) (λ k. cond (new i k) (f i * g k) 0) n k (f i * g k)
      (λ k. cond_kept (old i k) (new i k) (f i * g k) (kept i k)) lk (cond_more (old i k) (new i k) (f i * g k) was is))

-- two numbers below 50 together
small : (x y : ℕ) → x + y < 50 → x * y ≤ repeat_cost
small x y less = elim (lt_or_le x y) [
  | inl l ↦ ordered x (y - x) y (omega (arith, l)) less
  | inr l ↦ let z = ordered y (x - y) x (omega (arith, l)) (omega (arith, less)) in omega (arith, z)
]
  where
    ordered : (x d y : ℕ) → y ≡ x + d → x + y < 50 → x * y ≤ 625
    ordered x d y is less =
        let most = mul-le (x + x + d) (x + x + d) 49 49 (omega (arith, is, less)) (omega (arith, is, less)) in
        let same = ap (λ (z : ℕ). x * z) is in
        omega (arith, most, same)

not_asked : (asked : Bool → ℕ → ℕ → Bool) (e : Bool) (i g : ℕ) → covers_of asked e i g ≡ false → asked e i g ≡ false
not_asked asked e i g h = flat (asked e i g) (covers_no asked e i g h)
  where
    flat : (b : Bool) → (b ≡ true → ⊥) → b ≡ false
    flat true h = absurd (h refl)
    flat false h = refl

-- one of some is no more than all
pub sum_at : (g : ℕ → ℕ) (n k : ℕ) → k < n → g k ≤ sum_below g n
sum_at g zero k less = absurd (omega (arith, less))
sum_at g (suc n) k less = elim (cases_order k n) [
  | inl eq ↦ omega (arith, ap g eq)
  | inr o ↦ elim o [
    | inl l ↦ omega (arith, sum_at g n k l)
    | inr l ↦ absurd (omega (arith, less, l))
  ]
]

one_more : (r a b c : ℕ) → b ≡ a + 1 → c ≤ r → r * a + c ≤ r * b
one_more r a b c is le = omega (arith, ap (λ (k : ℕ). r * k) is, le)

module _ (w : World) (s t : Search) where
  -- a search that is noted is worth as much as its set and its fragment are, and what is repeated as much as a repetition
  module _ (f g : ℕ → ℕ) (i h : ℕ) (e : Bool) (n : NotesSearch i h e s t) (there : i < length w.sets) (known : h < length w.fragments) where
    abbrev Noted : Search → Bool → ℕ
    Noted u x = worth (length w.sets) (length w.fragments) f g (search_in u x)

    still : (x : Bool) → Noted s x ≤ Noted t x
    still x = worth_kept (length w.sets) (length w.fragments) f g (search_in s x) (search_in t x) (n.notes.kept x)

    more : (x : Bool) → x ≡ e → covers_of (search_in s) e i h ≡ false → Noted s x + f i * g h ≤ Noted t x
    more x is fresh = worth_more (length w.sets) (length w.fragments) f g (search_in s x) (search_in t x) (n.notes.kept x) i h there known
        (subst (λ y. search_in s y i h ≡ false) (sym is) (not_asked (search_in s) e i h fresh)) (subst (λ y. search_in t y i h ≡ true) (sym is) n.notes.noted)

    fresh_more : (x : Bool) → x ≡ e → covers_of (search_in s) e i h ≡ false → Noted s false + Noted s true + f i * g h ≤ Noted t false + Noted t true
    fresh_more true is fresh = omega (arith, more true is fresh, still false)
    fresh_more false is fresh = omega (arith, more false is fresh, still true)

    more_by : (r : ℕ) (b : Bool) → covers_of (search_in s) e i h ≡ b → (covers_of (search_in s) e i h ≡ false) ⊎ ((s.repeated < most_repeats) × (f i * g h ≤ r))
        → Noted s false + Noted s true + r * min s.repeated most_repeats + f i * g h ≤ Noted t false + Noted t true + r * min t.repeated most_repeats
    more_by r false is may = omega (arith, fresh_more e refl is, ap (λ (k : ℕ). r * min k most_repeats) (n.first is))
    more_by r true is (inl fresh) = absurd (clash (covers_of (search_in s) e i h) is fresh)
    more_by r true is (inr again) =
        let once : min t.repeated most_repeats ≡ min s.repeated most_repeats + 1 = omega (arith, n.repeats is again.0, again.0) in
        omega (arith, still true, still false, one_more r (min s.repeated most_repeats) (min t.repeated most_repeats) (f i * g h) once again.1)

    noted_more : (r : ℕ) → (covers_of (search_in s) e i h ≡ false) ⊎ ((s.repeated < most_repeats) × (f i * g h ≤ r))
        → Noted s false + Noted s true + r * min s.repeated most_repeats + f i * g h ≤ Noted t false + Noted t true + r * min t.repeated most_repeats
    noted_more r may = more_by r (covers_of (search_in s) e i h) refl may

  module _ (i h : ℕ) (e : Bool) (n : NotesSearch i h e s t) (there : i < length w.sets) (known : h < length w.fragments) (may : MayAsk w s e i h) where
    same_pairs : (x : Bool) → pairs_worth w t x ≡ pairs_worth w s x
    same_pairs x = ap (λ l. worth (length w.fragments) (length w.fragments) (fragment_weight w) (fragment_weight w) (λ f g. in_log l x (max f g) (min f g))) n.pairs

    -- a search that is noted pays for the two sets
    pub search_pays : credit w s + weight w i * fragment_weight w h ≤ credit w t
    search_pays =
        let more = noted_more (weight w) (fragment_weight w) i h e n there known repeat_cost
        (elim may [ inl fresh ↦ inl fresh | inr again ↦ inr (again.0, small (weight w i) (fragment_weight w h) again.1) ]) in
        omega (arith, same_pairs true, same_pairs false, more)

    -- and however fragments are measured, it counts as one more
    pub search_counts : (g : ℕ → ℕ) → asked w g s + g h ≤ asked w g t
    search_counts g =
        let at = sum_at g (length w.fragments) h known in
        let one : 1 * g h ≤ sum_below g (length w.fragments) = omega (arith, at) in
        let more = noted_more (λ k. 1) g i h e n there known (sum_below g (length w.fragments)) (elim may [ inl fresh ↦ inl fresh | inr again ↦ inr (again.0, one) ]) in
        omega (arith, more)

  module _ (f g : ℕ) (e : Bool) (n : NotesPair f g e s t) where
    same_searches : (x : Bool) → searches_worth w t x ≡ searches_worth w s x
    same_searches x = ap (λ l. worth (length w.sets) (length w.fragments) (weight w) (fragment_weight w) (λ i k. in_log l x i k)) n.searched

    still_pairs : (x : Bool) → pairs_worth w s x ≤ pairs_worth w t x
    still_pairs x = worth_kept (length w.fragments) (length w.fragments) (fragment_weight w) (fragment_weight w) (pair_in s x) (pair_in t x) (n.notes.kept x)

    more_pairs : (x : Bool) → x ≡ e → pair_in s e f g ≡ false → f < length w.fragments → g < length w.fragments
        → pairs_worth w s x + fragment_weight w f * fragment_weight w g ≤ pairs_worth w t x
    more_pairs x is fresh lf lg = worth_more (length w.fragments) (length w.fragments) (fragment_weight w) (fragment_weight w) (pair_in s x) (pair_in t x) (n.notes.kept x) f g lf lg
        (subst (λ y. pair_in s y f g ≡ false) (sym is) fresh) (subst (λ y. pair_in t y f g ≡ true) (sym is) n.notes.noted)

    paid_by : (x : Bool) → x ≡ e → pair_in s e f g ≡ false → f < length w.fragments → g < length w.fragments → credit w s + fragment_weight w f * fragment_weight w g ≤ credit w t
    paid_by true is fresh lf lg = omega (arith, same_searches true, same_searches false, more_pairs true is fresh lf lg, still_pairs false, n.repeated)
    paid_by false is fresh lf lg = omega (arith, same_searches true, same_searches false, more_pairs false is fresh lf lg, still_pairs true, n.repeated)

    -- two fragments that are noted pay for the two
    pub pair_pays : covers_of (pair_in s) e f g ≡ false → f < length w.fragments → g < length w.fragments → credit w s + fragment_weight w f * fragment_weight w g ≤ credit w t
    pair_pays fresh lf lg = paid_by e refl (not_asked (pair_in s) e f g fresh) lf lg

    -- or they only are noted
    pub pair_kept : Spends w 0 s t
    pair_kept = record { paid = omega (arith, n.judged, n.repeated, same_searches true, same_searches false, still_pairs true, still_pairs false) }

  -- so are many at once
  pub below_kept : (f : ℕ) (among : ℕ → Bool) → NotesBelow f among s t → Spends w 0 s t
  below_kept f among n =
      let same = λ (x : Bool). ap (λ l. worth (length w.sets) (length w.fragments) (weight w) (fragment_weight w) (λ i k. in_log l x i k)) n.searched in
      let still = λ (x : Bool). worth_kept (length w.fragments) (length w.fragments) (fragment_weight w) (fragment_weight w) (pair_in s x) (pair_in t x) (n.kept x) in
      let same_true : searches_worth w t true ≡ searches_worth w s true = same true in
      let same_false : searches_worth w t false ≡ searches_worth w s false = same false in
      let more_true : pairs_worth w s true ≤ pairs_worth w t true = still true in
      let more_false : pairs_worth w s false ≤ pairs_worth w t false = still false in
      record { paid = omega (arith, n.judged, n.repeated, same_true, same_false, more_true, more_false) }

sum_times : (f : ℕ → ℕ) (d n : ℕ) → sum_below (λ i. f i * d) n ≡ sum_below f n * d
sum_times f d zero = omega arith
sum_times f d (suc n) = omega (arith, sum_times f d n)

cond_most : (b : Bool) (x : ℕ) → cond b x 0 ≤ x
cond_most true x = omega arith
cond_most false x = omega arith

row_most : (n x : ℕ) (g : ℕ → ℕ) (asked : ℕ → Bool) → sum_below (λ k. cond (asked k) (x * g k) 0) n ≤ x * sum_below g n
row_most zero x g asked = omega arith
row_most (suc n) x g asked = omega (arith, row_most n x g asked, cond_most (asked n) (x * g n))

-- all questions are worth the product at most
pub worth_most : (m n : ℕ) (f g : ℕ → ℕ) (asked : ℕ → ℕ → Bool) → worth m n f g asked ≤ sum_below f m * sum_below g n
worth_most m n f g asked =
    omega (arith, sum_kept (λ i. sum_below (λ k. cond (asked i k) (f i * g k) 0) n) (λ i. f i * sum_below g n) m (λ i. row_most n (f i) g (asked i)), sum_times f (sum_below g n) m)

pub credit_most : (w : World) (s : Search) → credit w s ≤ 2 * (fragments_weight w * (fragments_weight w + sets_weight w)) + repeat_cost * most_repeats
credit_most w s =
    let n = length w.fragments in
    let m = length w.sets in
    omega (
      arith,
      worth_most n n (fragment_weight w) (fragment_weight w) (pair_in s false),
      worth_most n n (fragment_weight w) (fragment_weight w) (pair_in s true),
      worth_most m n (weight w) (fragment_weight w) (search_in s false),
      worth_most m n (weight w) (fragment_weight w) (search_in s true),
    )

pub asked_most : (w : World) (g : ℕ → ℕ) (s : Search) → asked w g s ≤ (2 * length w.sets + most_repeats) * sum_below g (length w.fragments)
asked_most w g s =
    let m = length w.sets in
    let n = length w.fragments in
    omega (
      arith,
      worth_most m n (λ i. 1) g (search_in s false),
      worth_most m n (λ i. 1) g (search_in s true),
      ap (λ (k : ℕ). k * sum_below g n) (ones m),
      mul-le (sum_below g n) (min s.repeated most_repeats) (sum_below g n) most_repeats (omega arith) (omega arith),
    )
  where
    ones : (m : ℕ) → sum_below (λ i. 1) m ≡ m
    ones zero = refl
    ones (suc m) = omega (arith, ones m)
