-- What is spent one after the other.
use Rattle.std.proofs.Common.{◌==◌, ◌||◌, Bool, Some, true, false, cond, suc, ◌≡◌, ◌+◌, ◌*◌, ◌<◌, ◌≤◌, ◌∙◌, ◌∷◌, [], ℕ, List, ap, arith, drop, get_or, length, refl, sym, take}
use Rattle.std.specs.Prelude.{sum_by}
use Rattle.std.specs.List.{All, Contains}
use Rattle.std.proofs.lemmas.List.{take_all}
use Rattle.std.proofs.lemmas.List.Elements.{All-head, All-tail}
use Rattle.std.proofs.lemmas.Option.{slice_get-get_or}
use Rattle.std.proofs.lemmas.List.Sums.{sum_by-cons, sum_by-take-drop, sum_by-take-le, sum_by_more}
use Rattle.std.proofs.lemmas.Nat.{mul-le}
use Rattle.merge_sets.specs.declared.node.Entry.{Entry}
use Rattle.merge_sets.specs.declared.node.InnerSet.{InnerSet}
use Rattle.merge_search.specs.declared.state.Search.{Search}
use Rattle.merge_sets.specs.Opening.{NoRepeats}
use Rattle.merge_search.specs.Spending.{AsksUpto, Spends, Takes, credit, fragments_weight, list_cost, sum_below}
use Rattle.merge_tops.specs.TopCosts.{later_cost, own_count, search_cost, set_cost, top_cost}
use Rattle.merge_search.specs.Weight.{field_weight, fields_weight, fragment_weight}
use Rattle.merge_sets.specs.World.{World}
use Rattle.merge_sets.proofs.Distinct.{repeats_tail}
use Rattle.merge_sets.proofs.OneName.{no_entry}
use Rattle.merge_search.proofs.Costs.{credit_same, list_all}
use Rattle.merge_search.proofs.Steps.{drop_next}
use Rattle.merge_search.proofs.Weights.{length_weight}
use Rattle.merge_search.proofs.Worth.{credit_most, sum_kept, sum_more}

abbrev pub no_inner : InnerSet
no_inner = record { outer = 0; first_field = 0; fields_end = 0; first_spread = 0; spreads_end = 0; next = 0 }

pub times_left : {X : Type 0} (f : X → ℕ) (m : ℕ) (xs : List X) → sum_by (λ x. m * f x) xs ≡ m * sum_by f xs
times_left f m [] = omega arith
times_left f m (x ∷ xs) = sum_by-cons (λ x. m * f x) x xs ∙ ap (λ (n : ℕ). m * f x + n) (times_left f m xs) ∙ spread m (f x) (sum_by f xs) ∙ ap (λ (n : ℕ). m * n) (sym (sum_by-cons f x xs))
  where
    spread : (m x y : ℕ) → m * x + m * y ≡ m * (x + y)
    spread m x y = omega arith

pub sum_next : (f : ℕ → ℕ) (n : ℕ) → sum_below f (n + 1) ≡ sum_below f n + f n
sum_next f n = ap (λ (m : ℕ). sum_below f m) after
  where
    after : n + 1 ≡ suc n
    after = omega arith

module _ (w : World) where
  -- what was asked is taken
  pub asks_take : (m : ℕ) (s t : Search) → AsksUpto m s t → Takes w m s t
  asks_take m s t a = record { paid = omega (arith, a.judged, credit_same w s t a.keeps.pairs a.keeps.searched a.keeps.repeated) }

  pub takes_none : (n : ℕ) (s : Search) → Takes w n s s
  takes_none n s = record { paid = omega arith }

  pub takes_then : (m n : ℕ) (s t u : Search) → Takes w m s t → Takes w n t u → Takes w (m + n) s u
  takes_then m n s t u p q = record { paid = omega (arith, p.paid, q.paid) }

  pub takes_more : (m n : ℕ) (s t : Search) → m ≤ n → Takes w m s t → Takes w n s t
  takes_more m n s t le p = record { paid = omega (arith, le, p.paid) }

  pub takes_spend : (m n : ℕ) (s t : Search) → m ≤ 8 * n → Takes w m s t → Spends w n s t
  takes_spend m n s t le p = record { paid = omega (arith, le, p.paid) }

  pub spends_asked : (m n k : ℕ) (s t u : Search) → 8 * n + m ≤ 8 * k → AsksUpto m s t → Spends w n t u → Spends w k s u
  spends_asked m n k s t u le a p = record { paid = omega (arith, le, p.paid, (asks_take m s t a).paid) }

  -- one after the other of a list, after something else
  module _ {X : Type 0} (f : X → ℕ) (xs : List X) (d : X) (c : ℕ) where
    pub takes_start : (s t : Search) → Takes w c s t → Takes w (c + sum_by f (take 0 xs)) s t
    takes_start s t p = record { paid = omega (arith, p.paid) }

    pub takes_next : (k : ℕ) (s t u : Search) → k < length xs → Takes w (c + sum_by f (take k xs)) s t → Takes w (f (get_or xs k d)) t u → Takes w (c + sum_by f (take (k + 1) xs)) s u
    takes_next k s t u less p q = record { paid = omega (arith, p.paid, q.paid, sum_by_more f xs k d less) }

    pub takes_list : (k n : ℕ) (s t : Search) → length xs ≤ k → c + sum_by f xs ≤ n → Takes w (c + sum_by f (take k xs)) s t → Takes w n s t
    takes_list k n s t past most p = record { paid = omega (arith, p.paid, ap (sum_by f) (take_all k xs past), most) }

  -- a field and some others cost no more than the product of their weights
  pub list_few : (a : Entry) (fields : List Entry) → list_cost w a fields ≤ 8 * (field_weight w a * fields_weight w fields)
  list_few a fields = omega (arith, list_all w a fields)

  -- a field and those after it
  pub later_next : (xs : List Entry) (k : ℕ) → k < length xs
      → later_cost w (drop k xs) ≡ field_weight w (get_or xs k no_entry) * fields_weight w (drop (k + 1) xs) + later_cost w (drop (k + 1) xs)
  later_next xs k less = ap (later_cost w) (drop_next xs xs k no_entry refl less)

  later_half : (xs : List Entry) → 2 * later_cost w xs + fields_weight w xs ≤ fields_weight w xs * fields_weight w xs
  later_half [] = omega arith
  later_half (x ∷ xs) = omega (arith, later_half xs, sum_by-cons (field_weight w) x xs, ap (λ (n : ℕ). n * n) (sum_by-cons (field_weight w) x xs))

  -- each two of some fields, and what is asked before, are no more than the square
  pub each_spends : (xs : List Entry) (s t u : Search) → AsksUpto (2 * length xs) s t → Takes w (8 * later_cost w xs + 4 * (length xs * length xs)) t u
      → Spends w (fields_weight w xs * fields_weight w xs) s u
  each_spends xs s t u a p =
      let f = fields_weight w xs in
      let few = length_weight w xs in
      record { paid = omega (arith, (asks_take (2 * length xs) s t a).paid, p.paid, later_half xs, few, mul-le (length xs) (length xs) f f few few) }

  pub passed_spends : (xs : List Entry) (s t : Search) → AsksUpto (2 * length xs) s t → Spends w (fields_weight w xs * fields_weight w xs) s t
  passed_spends xs s t a = record { paid = omega (arith, (asks_take (2 * length xs) s t a).paid, later_half xs, length_weight w xs) }

  -- so much of it may still be taken, and so much was asked
  pub record TakesBut (all rest asked : ℕ) (old new : Search) : Type 0 where
    pub paid : new.judged + 8 * (credit w old + rest) ≤ old.judged + (8 * (credit w new + all) + asked)

  pub but_start : (n m : ℕ) (s : Search) → TakesBut n n (0 * m) s s
  but_start n m s = record { paid = omega arith }

  -- one more is asked about, and then compared
  pub but_next : (all rest less n k m : ℕ) (s t u v : Search) → n + less ≤ rest → TakesBut all rest (k * m) s t → AsksUpto m t u → Spends w n u v
      → TakesBut all less ((k + 1) * m) s v
  but_next all rest less n k m s t u v le p a q = record { paid = omega (arith, le, p.paid, (asks_take m t u a).paid, q.paid) }

  pub but_end : (all rest k m : ℕ) (s t : Search) → k ≤ m → TakesBut all rest (k * m) s t → Takes w (8 * all + m * m) s t
  but_end all rest k m s t le p = record { paid = omega (arith, p.paid, mul-le k m m m le (omega arith)) }

  pub spends_then : (m n : ℕ) (s t u : Search) → Spends w m s t → Spends w n t u → Spends w (m + n) s u
  spends_then m n s t u p q = record { paid = omega (arith, p.paid, q.paid) }

  pub spends_more : (m n : ℕ) (s t : Search) → m ≤ n → Spends w m s t → Spends w n s t
  spends_more m n s t le p = record { paid = omega (arith, le, p.paid) }

  -- one after the other of a list
  module _ {X : Type 0} (f : X → ℕ) (xs : List X) (d : X) where
    pub spends_start : (s : Search) → Spends w (sum_by f (take 0 xs)) s s
    spends_start s = record { paid = omega arith }

    pub spends_next : (k : ℕ) (s t u : Search) → k < length xs → Spends w (sum_by f (take k xs)) s t → Spends w (f (get_or xs k d)) t u → Spends w (sum_by f (take (k + 1) xs)) s u
    spends_next k s t u less p q = record { paid = omega (arith, p.paid, q.paid, sum_by_more f xs k d less) }

    pub spends_list : (k n : ℕ) (s t : Search) → length xs ≤ k → sum_by f xs ≤ n → Spends w (sum_by f (take k xs)) s t → Spends w n s t
    spends_list k n s t past most p = record { paid = omega (arith, p.paid, ap (sum_by f) (take_all k xs past), most) }

-- whether a number is in a list
isin : ℕ → List ℕ → Bool
isin i [] = false
isin i (x ∷ xs) = (x == i) || isin i xs

eq_from : (m n : ℕ) → (m == n) ≡ true → m ≡ n
eq_from m n h = grind arith

eq_self : (m : ℕ) → (m == m) ≡ true
eq_self m = grind arith

found_in : (i x : ℕ) (xs : List ℕ) → (isin i xs ≡ true → Contains xs i) → (b : Bool) → (x == i) ≡ b → (b || isin i xs) ≡ true → Contains (x ∷ xs) i
found_in i x xs rest true is h = (0, omega arith, eq_from x i is)
found_in i x xs rest false is h = let z = rest h in (suc z.0, omega (arith, z.1), z.2)

found : (i : ℕ) (xs : List ℕ) → isin i xs ≡ true → Contains xs i
unfolding isin
found i [] h = cc
found i (x ∷ xs) h = found_in i x xs (found i xs) (x == i) refl h

fresh : (x : ℕ) (xs : List ℕ) → NoRepeats (x ∷ xs) → (b : Bool) → isin x xs ≡ b → isin x xs ≡ false
fresh x xs once false is = is
fresh x xs once true is = let z = found x xs is in absurd (once 0 (suc z.0) x (omega arith) refl (slice_get-get_or xs z.0 x z.1 ∙ ap (λ (y : ℕ). Some y) z.2))

module _ (f : ℕ → ℕ) where
  mask : List ℕ → ℕ → ℕ
  mask xs i = cond (isin i xs) (f i) 0

  mask_kept : (x : ℕ) (xs : List ℕ) (i : ℕ) → mask xs i ≤ mask (x ∷ xs) i
  unfolding mask isin
  mask_kept x xs i = kept (x == i) (isin i xs)
    where
      kept : (a b : Bool) → cond b (f i) 0 ≤ cond (a || b) (f i) 0
      kept true true = omega arith
      kept true false = omega arith
      kept false b = omega arith

  mask_new : (x : ℕ) (xs : List ℕ) → isin x xs ≡ false → mask xs x + f x ≤ mask (x ∷ xs) x
  unfolding mask isin
  mask_new x xs out =
      omega (arith, ap (λ b. cond b (f x) 0) out, ap (λ b. cond (b || isin x xs) (f x) 0) (eq_self x))

  mask_most : (xs : List ℕ) (i : ℕ) → mask xs i ≤ f i
  unfolding mask
  mask_most xs i = most (isin i xs)
    where
      most : (b : Bool) → cond b (f i) 0 ≤ f i
      most true = omega arith
      most false = omega arith

  masked : (n : ℕ) (xs : List ℕ) → NoRepeats xs → All (λ x. x < n) xs → sum_by f xs ≤ sum_below (mask xs) n
  masked n [] once all = omega arith
  masked n (x ∷ xs) once all =
      let more = sum_more (mask xs) (mask (x ∷ xs)) n x (f x) (mask_kept x xs) (All-head (λ y. y < n) x xs all) (mask_new x xs (fresh x xs once (isin x xs) refl)) in
      omega (arith, sum_by-cons f x xs, masked n xs (repeats_tail x xs once) (All-tail (λ y. y < n) x xs all), more)

  -- different numbers below a bound are no more than all
  pub distinct_sum : (n : ℕ) (xs : List ℕ) → NoRepeats xs → All (λ x. x < n) xs → sum_by f xs ≤ sum_below f n
  distinct_sum n xs once all = omega (arith, masked n xs once all, sum_kept (mask xs) f n (mask_most xs))

module _ (w : World) where
  -- different fragments, each so many times
  pub fragments_cost : (m : ℕ) (hs : List ℕ) → NoRepeats hs → All (λ h. h < length w.fragments) hs → sum_by (λ h. m * fragment_weight w h) hs ≤ m * fragments_weight w
  fragments_cost m hs once there =
      omega (arith, times_left (fragment_weight w) m hs, mul-le m (sum_by (fragment_weight w) hs) m (fragments_weight w) (omega arith) (distinct_sum (fragment_weight w) (length w.fragments) hs once there))

  pub spends_after_none : (n : ℕ) (s t u : Search) → Spends w n s t → Spends w 0 t u → Spends w n s u
  spends_after_none n s t u p q = record { paid = omega (arith, p.paid, q.paid) }

  -- the own fields of a set, and then its spreads
  pub set_spends : (n : ℕ) (s t u : Search) → Spends w (n * n) s t → Spends w (n * fragments_weight w) t u → Spends w (top_cost w n) s u
  set_spends n s t u p q = record { paid = omega (arith, p.paid, q.paid) }

  -- a part of some fields, and then its spreads
  pub inner_spends : (m n : ℕ) (s t u : Search) → m ≤ n → Spends w (m * m) s t → Spends w (m * fragments_weight w) t u → Spends w (top_cost w n) s u
  inner_spends m n s t u le p q = record { paid = omega (arith, p.paid, q.paid, mul-le m (m + fragments_weight w) n (n + fragments_weight w) le (omega (arith, le))) }

-- a part of a list is no more
pub slice_within : {X : Type 0} (f : X → ℕ) (xs : List X) (i j n : ℕ) → sum_by f (take j (take n (drop i xs))) ≤ sum_by f xs
slice_within f xs i j n = omega (arith, sum_by-take-le f (take n (drop i xs)) j, sum_by-take-le f (drop i xs) n, sum_by-take-drop f xs i)

-- what was compared when the search ends, with what was asked before it began
pub all_compared : (w : World) (inner : List InnerSet) (order : List ℕ) (r s t : Search) → r.judged ≡ 0 → AsksUpto (64 * own_count w) r s
    → Spends w (sum_by (set_cost w inner) order) s t → t.judged ≤ 8 * search_cost w inner order
all_compared w inner order r s t none asked p = omega (arith, p.paid, none, asked.judged, credit_most w t)
