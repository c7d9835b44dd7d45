-- Errors in ascending order have one order.
use Rattle.std.proofs.Common.{◌≡◌, ℕ, ◌+◌, ◌<◌, ◌≤◌, List, [], ◌∷◌, Bool, true, false, cond, length, get_or, suc, zero, refl, ap, ap₂, sym, ◌∙◌, subst, arith, IsPermutation, IsSorted, Ordering, Less, Equal, Greater, is_lt, true≢false, sum_by}
use Rattle.std.specs.Cmp.{IsTotalOrder, IsStrictWeakOrder}
use Rattle.std.specs.Ordering.{ordering_reverse}
use Rattle.std.proofs.lemmas.Cmp.{nat_cmp_total, nat_list_cmp_total, on_total, then_total, lists_total}
use Rattle.std.proofs.lemmas.List.MinMax.{ranks_by}
use Rattle.std.proofs.lemmas.List.Sorted.{length_permutation, sorted_far, sum_by-IsPermutation}
use Rattle.std.proofs.lemmas.List.Sums.{sum_by-cons}
use Rattle.language_types.specs.Position.{index_of, line_of, column_of}
use Rattle.walk.specs.ErrorValue.{ErrorValue, error_cmp, position_cmp}
use Rattle.walk.proofs.Orders.{equal_means_same}

module _ {X : Type 0} where
  -- as many of each kind, whatever is counted
  abbrev SameSums : List X → List X → Type 0
  SameSums xs ys = (f : X → ℕ) → sum_by f xs ≡ sum_by f ys

  rest_same : (x : X) (xs ys : List X) → SameSums (x ∷ xs) (x ∷ ys) → SameSums xs ys
  rest_same x xs ys h f =
      let all = h f in
      let left = sum_by-cons f x xs in
      let right = sum_by-cons f x ys in omega (arith, all, left, right)

module _ {X : Type 0} (cmp : X → X → Ordering) (total : IsTotalOrder cmp) (exact : (x y : X) → cmp x y ≡ Equal → x ≡ y) where
  abbrev below : X → X → Bool
  below x y = is_lt (cmp x y)

  weak : IsStrictWeakOrder below
  weak = ranks_by total (λ x. x)

  abbrev AtLeast : X → List X → Type 0
  AtLeast x xs = sum_by (λ y. cond (below y x) 1 0) xs ≡ 0

  tail_sorted : (x : X) (xs : List X) → IsSorted cmp (x ∷ xs) → IsSorted cmp xs
  tail_sorted x xs up = λ k d p q. rw Rattle.std.proofs.Common.add-one (rw Rattle.std.proofs.Common.add-one at (up (suc k) d (omega arith) (omega arith)))

  -- nothing after the first of a sorted list is below it
  none_below : (x : X) (ys : List X) → ((k : ℕ) → k < length ys → below (get_or ys k x) x ≡ false) → AtLeast x ys
  none_below x [] h = refl
  none_below x (y ∷ ys) h =
      sum_by-cons (λ z. cond (below z x) 1 0) y ys
      ∙ ap₂ ◌+◌ (ap (λ b. cond b 1 0) (h 0 (omega arith))) (none_below x ys (λ k p. h (suc k) (omega arith)))

  first_least : (x : X) (xs : List X) → IsSorted cmp (x ∷ xs) → AtLeast x (x ∷ xs)
  first_least x xs up = none_below x (x ∷ xs) (λ k p. sorted_far below weak (x ∷ xs) up 0 k x (omega arith) p)

  not_below : (b : Bool) (n : ℕ) → cond b 1 0 + n ≡ 0 → b ≡ false
  not_below true n e = absurd (omega (arith, e))
  not_below false n e = refl

  head_not_below : (x y : X) (ys : List X) → AtLeast x (y ∷ ys) → below y x ≡ false
  head_not_below x y ys h = not_below (below y x) (sum_by (λ z. cond (below z x) 1 0) ys) (sym (sum_by-cons (λ z. cond (below z x) 1 0) y ys) ∙ h)

  tied : (x y : X) (o : Ordering) → cmp x y ≡ o → below x y ≡ false → below y x ≡ false → x ≡ y
  tied x y Less e p q = absurd (true≢false (sym (ap is_lt e) ∙ p))
  tied x y Equal e p q = exact x y e
  tied x y Greater e p q = absurd (true≢false (sym (ap is_lt (total.antisymm y x ∙ ap ordering_reverse e)) ∙ q))

  same_order : (xs ys : List X) → length xs ≡ length ys → SameSums xs ys → IsSorted cmp xs → IsSorted cmp ys → xs ≡ ys
  same_order [] [] n h p q = refl
  same_order [] (y ∷ ys) n h p q = absurd (omega (arith, n))
  same_order (x ∷ xs) [] n h p q = absurd (omega (arith, n))
  same_order (x ∷ xs) (y ∷ ys) n h p q =
      let not_y = head_not_below x y ys (sym (h (λ z. cond (below z x) 1 0)) ∙ first_least x xs p) in
      let not_x = head_not_below y x xs (h (λ z. cond (below z y) 1 0) ∙ first_least y ys q) in
      let first : x ≡ y = tied x y (cmp x y) refl not_x not_y in
      let rest : SameSums xs ys = rest_same x xs ys (subst (λ z. SameSums (x ∷ xs) (z ∷ ys)) (sym first) h) in
      ap₂ ◌∷◌ first (same_order xs ys (omega (arith, n)) rest (tail_sorted x xs p) (tail_sorted y ys q))

  -- two sorted lists of the same elements are the same
  sorted_once : (zs xs ys : List X) → IsPermutation zs xs → IsPermutation zs ys → IsSorted cmp xs → IsSorted cmp ys → xs ≡ ys
  sorted_once zs xs ys a b p q =
      same_order xs ys (length_permutation zs xs a ∙ sym (length_permutation zs ys b)) (λ f. sum_by-IsPermutation f zs xs a ∙ sym (sum_by-IsPermutation f zs ys b)) p q

errors_total : IsTotalOrder error_cmp
errors_total =
    let positions : IsTotalOrder position_cmp = then_total (on_total index_of nat_cmp_total) (then_total (on_total line_of nat_cmp_total) (on_total column_of nat_cmp_total)) in
    then_total (on_total (λ e. e.locations) (lists_total positions)) (on_total (λ e. e.message) nat_list_cmp_total)

-- two sorted lists of the same errors are the same
pub errors_once : (zs xs ys : List ErrorValue) → IsPermutation zs xs → IsPermutation zs ys → IsSorted error_cmp xs → IsSorted error_cmp ys → xs ≡ ys
errors_once = sorted_once error_cmp errors_total (λ x y e. (equal_means_same x y).0 e)
