-- How fields are found by their response names.
use Rattle.std.proofs.Common.{◌≡◌, ◌==◌, ℕ, zero, suc, ◌+◌, ◌-◌, ◌<◌, List, [], ◌∷◌, ◌++◌, length, take, drop, get_or, refl, sym, subst, ap, ◌∙◌, arith, Bool, true, false, cond, not, ◌&&◌, ltb, leb, ltb-true, ltb-false, leb-true, leb-false, None, Some, inl, inr, append-nil, length-append, slice_get}
use Rattle.std.specs.Bool.{OnTrue}
use Rattle.std.specs.List.{All, IsAllAdjacentAnswer, filter, list_any}
use Rattle.std.specs.List.Sorted.{IsStableByKey, ties, IsPartitionPoint}
use Rattle.std.specs.Ordering.{is_lt, nat_cmp}
use Rattle.std.proofs.lemmas.Bool.Decides.{nat_tests}
use Rattle.std.proofs.lemmas.Bool.{or_left, or_right}
use Rattle.std.proofs.lemmas.Option.{get_or_from_slice_get, slice_get_within}
use Rattle.std.proofs.lemmas.List.{take_rest, length-take, length-drop, get_or-take, get_or-drop, take-append-drop}
use Rattle.std.proofs.lemmas.List.Folds.{list_any-append, list_any_at}
use Rattle.std.proofs.lemmas.List.Sorted.{IsNonDecreasingBy-from_all_adjacent}
use Rattle.std.proofs.lemmas.List.Elements.{filter_agree, filter-append, All-head, All-tail, All-more, All-weaker, All-contains}
use Rattle.std.proofs.lemmas.Bool.{cases_order}
use Rattle.merge_sets.specs.declared.node.Entry.{Entry}
use Rattle.merge_sets.specs.Names.{named, AreListed, AreSorted, HaveOwnNames, HaveSameGroups}
use Rattle.merge_sets.proofs.InOrder.{Places, named_places, places_named}
use Rattle.merge_sets.proofs.Laws.{same_some}
use Rattle.merge_sets.proofs.OneName.{no_entry}

tied_is : (m n : ℕ) → (not (is_lt (nat_cmp m n)) && not (is_lt (nat_cmp n m))) ≡ (n == m)
tied_is m n = grind (arith, nat_tests)

-- a stable sort keeps the groups
pub stays_grouped : (xs ys : List Entry) → IsStableByKey (λ (a : Entry). a.response) nat_cmp xs ys → HaveSameGroups ys xs
stays_grouped xs ys h n =
    let x : Entry = record { response = n; field = 0; below = None } in
    let test : Entry → Bool = ties (λ (a b : Entry). is_lt (nat_cmp a.response b.response)) x in
    let same : (zs : List Entry) → filter test zs ≡ named n zs = filter_agree test (λ a. a.response == n) (λ a. tied_is n a.response) in
    sym (same ys) ∙ (h x ∙ same xs)

module _ (test : Entry → Bool) where
  all_kept : (xs : List Entry) → All (λ a. test a ≡ true) xs → filter test xs ≡ xs
  all_kept [] h = refl
  all_kept (x ∷ xs) h =
      subst (λ b. cond b (x ∷ filter test xs) (filter test xs) ≡ x ∷ xs) (sym (All-head (λ a. test a ≡ true) x xs h))
      (ap (λ (l : List Entry). x ∷ l) (all_kept xs (All-tail (λ a. test a ≡ true) x xs h)))

  none_kept : (xs : List Entry) → All (λ a. test a ≡ false) xs → filter test xs ≡ []
  none_kept [] h = refl
  none_kept (x ∷ xs) h =
      subst (λ b. cond b (x ∷ filter test xs) (filter test xs) ≡ []) (sym (All-head (λ a. test a ≡ false) x xs h))
      (none_kept xs (All-tail (λ a. test a ≡ false) x xs h))

  -- the rest begins with what is kept, and nothing else is
  begins_kept : (j : ℕ) (xs : List Entry) → All (λ a. test a ≡ true) (take j xs) → All (λ a. test a ≡ false) (drop j xs) → filter test xs ≡ take j xs
  begins_kept j xs inside after =
      ap (filter test) (sym (take-append-drop j xs)) ∙ (filter-append test (take j xs) (drop j xs)
      ∙ (ap (λ (l : List Entry). filter test (take j xs) ++ l) (none_kept (drop j xs) after)
      ∙ (append-nil (filter test (take j xs)) ∙ all_kept (take j xs) inside)))

  ends_kept : (i : ℕ) (xs : List Entry) → All (λ a. test a ≡ false) (take i xs) → filter test xs ≡ filter test (drop i xs)
  ends_kept i xs before =
      ap (filter test) (sym (take-append-drop i xs)) ∙ (filter-append test (take i xs) (drop i xs)
      ∙ ap (λ (l : List Entry). l ++ filter test (drop i xs)) (none_kept (take i xs) before))

below_not : (m n : ℕ) → ltb m n ≡ true → (m == n) ≡ false
below_not m n h = let l = ltb-true m n h in grind (arith, nat_tests)

above_not : (m n : ℕ) → leb m n ≡ false → (m == n) ≡ false
above_not m n h = let l = leb-false m n h in grind (arith, nat_tests)

between_is : (m n : ℕ) → ltb m n ≡ false → leb m n ≡ true → (m == n) ≡ true
between_is m n g h = let l = ltb-false m n g in let k = leb-true m n h in grind (arith, nat_tests)

module _ (n i j : ℕ) (xs : List Entry) (start : IsPartitionPoint (λ (a : Entry). ltb a.response n ≡ true) (λ a. ltb a.response n ≡ false) xs i) where
  run_in : IsPartitionPoint (λ (a : Entry). leb a.response n ≡ true) (λ a. leb a.response n ≡ false) (drop i xs) j → named n xs ≡ take j (drop i xs)
  run_in end = ends_kept (λ a. a.response == n) i xs before ∙ begins_kept (λ a. a.response == n) j (drop i xs) inside after
    where
      before : All (λ (a : Entry). (a.response == n) ≡ false) (take i xs)
      before k d l =
          let long = length-take i xs in
          let p : k < i = omega arith in
          subst (λ (a : Entry). (a.response == n) ≡ false) (sym (get_or-take i xs k d p)) (below_not (get_or xs k d).response n (start.0 k d (omega arith) p))

      inside : All (λ (a : Entry). (a.response == n) ≡ true) (take j (drop i xs))
      inside k d l =
          let long = length-take j (drop i xs) in
          let rest = length-drop i xs in
          let p : k < j = omega arith in
          let same = get_or-drop i xs k d in
          let high = subst (λ (a : Entry). ltb a.response n ≡ false) (sym same) (start.1 (i + k) d (omega arith) (omega arith)) in
          subst (λ (a : Entry). (a.response == n) ≡ true) (sym (get_or-take j (drop i xs) k d p)) (between_is (get_or (drop i xs) k d).response n high (end.0 k d (omega arith) p))

      after : All (λ (a : Entry). (a.response == n) ≡ false) (drop j (drop i xs))
      after k d l =
          let rest = length-drop j (drop i xs) in
          subst (λ (a : Entry). (a.response == n) ≡ false) (sym (get_or-drop j (drop i xs) k d))
          (above_not (get_or (drop i xs) (j + k) d).response n (end.1 (j + k) d (omega arith) (omega arith)))

  -- the fields of a name stand from the first that is not below it up to the first above it
  pub run_named : IsPartitionPoint (λ (a : Entry). leb a.response n ≡ true) (λ a. leb a.response n ≡ false) (take (length xs - i) (drop i xs)) j
      → take j (take (length xs - i) (drop i xs)) ≡ named n xs
  run_named end =
      ap (take j) (take_rest xs i)
      ∙ sym (run_in (subst (λ (l : List Entry). IsPartitionPoint (λ (a : Entry). leb a.response n ≡ true) (λ a. leb a.response n ≡ false) l j) (take_rest xs i) end))

eq_self : (m : ℕ) → (m == m) ≡ true
eq_self m = grind arith

-- each field has one of its name listed
abbrev pub Lists : List Entry → ℕ → Type 0
Lists firsts n = list_any (λ f. n == f.response) firsts ≡ true

pub still_lists : (firsts : List Entry) (x : Entry) (n : ℕ) → Lists firsts n → Lists (firsts ++ x ∷ []) n
still_lists firsts x n h = list_any-append (λ f. n == f.response) firsts (x ∷ []) ∙ or_left (list_any (λ f. n == f.response) firsts) (list_any (λ f. n == f.response) (x ∷ [])) h

pub new_lists : (firsts : List Entry) (x : Entry) → Lists (firsts ++ x ∷ []) x.response
new_lists firsts x = list_any-append (λ f. x.response == f.response) firsts (x ∷ []) ∙ or_right (list_any (λ f. x.response == f.response) firsts) (list_any (λ f. x.response == f.response) (x ∷ [])) (or_left (x.response == x.response) false (eq_self x.response))

module _ (own : List Entry) (k : ℕ) (inside : k < length own) (firsts : List Entry) (had : AreListed firsts (take k own)) where
  -- the next was listed before, or it is now
  pub next_passed : Lists firsts (get_or own k no_entry).response → AreListed firsts (take (k + 1) own)
  next_passed there = All-more (λ a. Lists firsts a.response) own k no_entry inside had there

  pub next_listed : AreListed (firsts ++ get_or own k no_entry ∷ []) (take (k + 1) own)
  next_listed =
      let x : Entry = get_or own k no_entry in
      All-more (λ a. Lists (firsts ++ x ∷ []) a.response) own k no_entry inside
      (All-weaker (λ a. Lists firsts a.response) (λ a. Lists (firsts ++ x ∷ []) a.response) (λ a h. still_lists firsts x a.response h) (take k own) had)
      (new_lists firsts x)

-- where the response names rise the own fields serve
pub rising_sorted : (xs : List Entry) (r : Bool) → IsAllAdjacentAnswer (λ (x : Entry) y b. b ≡ ltb x.response y.response) xs r → OnTrue r (AreSorted xs)
rising_sorted xs true h = IsNonDecreasingBy-from_all_adjacent (λ (a : Entry). a.response) xs (λ k d l. let below = ltb-true (get_or xs k d).response (get_or xs (k + 1) d).response (sym (h k d l)) in omega arith)
rising_sorted xs false h = tt

pub listed_itself : (own : List Entry) → AreListed own own
listed_itself own k d l = list_any_at (λ f. (get_or own k d).response == f.response) own k d l (eq_self (get_or own k d).response)

abbrev Rise : List Entry → Type 0
Rise xs = (k : ℕ) (d : Entry) → k + 1 < length xs → (get_or xs k d).response < (get_or xs (k + 1) d).response

climb : (xs : List Entry) → Rise xs → (k : ℕ) (d : Entry) (n : ℕ) → k + suc n < length xs → (get_or xs k d).response < (get_or xs (k + suc n) d).response
climb xs rise k d zero l =
    let next : k + suc zero ≡ k + 1 = omega arith in
    subst (λ (m : ℕ). (get_or xs k d).response < (get_or xs m d).response) (sym next) (rise k d (omega (arith, l)))
climb xs rise k d (suc n) l =
    let next : k + suc (suc n) ≡ (k + suc n) + 1 = omega arith in
    subst (λ (m : ℕ). (get_or xs k d).response < (get_or xs m d).response) (sym next)
    (omega (arith, climb xs rise k d n (omega (arith, l)), rise (k + suc n) d (omega (arith, l))))

own_rise : (xs : List Entry) → Rise xs → HaveOwnNames xs
own_rise xs rise k l a b lt p q same =
    let there : k + suc (l - (k + 1)) ≡ l = omega (arith, lt) in
    let up = climb xs rise k a (l - (k + 1)) (omega (arith, lt, slice_get_within xs l b q)) in
    let left : get_or xs k a ≡ a = get_or_from_slice_get xs k a a p in
    let right : get_or xs (k + suc (l - (k + 1))) a ≡ b = ap (λ (i : ℕ). get_or xs i a) there ∙ get_or_from_slice_get xs l b a q in
    omega (arith, up, ap (λ (x : Entry). x.response) left, ap (λ (x : Entry). x.response) right, same)

-- where they rise no name stands twice
pub rising_own : (xs : List Entry) (r : Bool) → IsAllAdjacentAnswer (λ (x : Entry) y b. b ≡ ltb x.response y.response) xs r → OnTrue r (HaveOwnNames xs)
rising_own xs true h = own_rise xs (λ k d l. ltb-true (get_or xs k d).response (get_or xs (k + 1) d).response (sym (h k d l)))
rising_own xs false h = tt

-- nor in another order
pub own_grouped : (xs ys : List Entry) → HaveSameGroups ys xs → HaveOwnNames ys → HaveOwnNames xs
own_grouped xs ys grouped once k l a b lt p q same =
    let n = a.response in
    let there : Places (named n ys) a b = subst (λ zs. Places zs a b) (sym (grouped n)) (named_places n xs a b (k, l, lt, p, q) refl (sym same)) in
    let z = places_named n ys a b there in
    once z.0 z.1 a b z.2 z.3 z.4 same

front : (xs ys : List Entry) (k : ℕ) → k < length xs → slice_get (xs ++ ys) k ≡ slice_get xs k
front [] ys k l = absurd (omega (arith, l))
front (x ∷ xs) ys zero l = refl
front (x ∷ xs) ys (suc k) l = front xs ys k (omega (arith, l))

last : (xs : List Entry) (x : Entry) → slice_get (xs ++ x ∷ []) (length xs) ≡ Some x
last [] x = refl
last (y ∷ xs) x = last xs x

pub own_names_none : HaveOwnNames []
own_names_none k l a b lt p q same = absurd (omega (arith, slice_get_within [] k a p))

pub own_names_push : (xs : List Entry) (y : Entry) → HaveOwnNames xs → All (λ (f : Entry). f.response ≡ y.response → ⊥) xs → HaveOwnNames (xs ++ y ∷ [])
own_names_push xs y once apart k l a b lt p q same =
    let inside : l < length (xs ++ y ∷ []) = slice_get_within (xs ++ y ∷ []) l b q in
    let short : k < length xs = omega (arith, inside, lt, length-append xs (y ∷ [])) in
    let first : slice_get xs k ≡ Some a = sym (front xs (y ∷ []) k short) ∙ p in
    elim (cases_order l (length xs)) [
      | inl eq ↦
          let is : y ≡ b = same_some y b (slice_get (xs ++ y ∷ []) l) (subst (λ (i : ℕ). slice_get (xs ++ y ∷ []) i ≡ Some y) (sym eq) (last xs y)) q in
          All-contains (λ (f : Entry). f.response ≡ y.response → ⊥) xs a apart (k, short, get_or_from_slice_get xs k a a first) (same ∙ ap (λ (x : Entry). x.response) (sym is))
      | inr o ↦ elim o [
        | inl less ↦ once k l a b lt first (sym (front xs (y ∷ []) l less) ∙ q) same
        | inr more ↦ omega (arith, inside, more, length-append xs (y ∷ []))
      ]
    ]
