-- Sums over lists, and over the first so many numbers.
use Rattle.std.proofs.Common.{◌≡◌, ◌<◌, ◌≤◌, ◌+◌, ◌-◌, ◌*◌, ◌==◌, ℕ, zero, suc, List, [], ◌∷◌, ◌++◌, length, length-append, take, drop, take_all, get_or, Some, Bool, true, false, cond, slice_get, refl, sym, ap, subst, ◌∙◌, inl, inr, arith}
use Rattle.std.specs.Prelude.{slice_range}
use Rattle.std.specs.List.{Contains, sum_by}
use Rattle.std.proofs.lemmas.Bool.{eqb-true}
use Rattle.std.proofs.lemmas.Nat.{mul-le}
use Rattle.std.proofs.lemmas.List.Elements.{Contains-append_cases, Contains-append_left, Contains-append_right}
use Rattle.std.proofs.lemmas.List.Sums.{sum_by-cons, sum_by-append, sum_by_more, sum_by-take-drop, sum_by-take-le}
use Rattle.fragment_graph.proofs.Lists.{same_some, contains_get, contains_one}
use Rattle.merge_search.specs.Spending.{sum_below}

-- what stands in a list is no more than all of it, nor is a stretch of it
pub one_of_all : {X : Type 0} (f : X → ℕ) (xs : List X) (x : X) → Contains xs x → f x ≤ sum_by f xs
one_of_all f xs x c = let k = contains_get xs x c in at xs k.0 k.1
  where
    at : (ys : List _) (k : ℕ) → slice_get ys k ≡ Some x → f x ≤ sum_by f ys
    at [] k h = cc
    at (y ∷ ys) zero h = omega (arith, sum_by-cons f y ys, ap f (same_some y x h))
    at (y ∷ ys) (suc k) h = omega (arith, sum_by-cons f y ys, at ys k h)

pub stretch_of_all : {X : Type 0} (f : X → ℕ) (xs : List X) (start end : ℕ) → sum_by f (slice_range xs start end) ≤ sum_by f xs
stretch_of_all f xs start end = omega (arith, sum_by-take-le f (drop start xs) (end - start), sum_by-take-drop f xs start)

-- two sums at once
pub sum_by_both : {X : Type 0} (f g : X → ℕ) (xs : List X) → sum_by (λ x. f x + g x) xs ≡ sum_by f xs + sum_by g xs
sum_by_both f g [] = refl
sum_by_both f g (x ∷ xs) = omega (arith, sum_by-cons (λ y. f y + g y) x xs, sum_by-cons f x xs, sum_by-cons g x xs, sum_by_both f g xs)

-- each with itself and what they all meet
pub sum_by_capped : {X : Type 0} (f : X → ℕ) (n m : ℕ) (xs : List X) → ((x : X) → f x ≤ n) → sum_by (λ x. f x * (f x + m)) xs ≤ sum_by f xs * (n + m)
sum_by_capped f n m [] most = omega arith
sum_by_capped f n m (x ∷ xs) most =
    omega (
      arith,
      sum_by-cons (λ y. f y * (f y + m)) x xs,
      ap (λ (k : ℕ). k * (n + m)) (sum_by-cons f x xs),
      mul-le (f x) (f x + m) (f x) (n + m) (omega arith) (omega (arith, most x)),
      sum_by_capped f n m xs most,
    )

-- the sum over the places of a list
below_taken : (f : ℕ → ℕ) (xs : List ℕ) (n : ℕ) → n ≤ length xs → sum_below (λ k. f (get_or xs k 0)) n ≡ sum_by f (take n xs)
below_taken f xs zero l = refl
below_taken f xs (suc n) l =
    let next : suc n ≡ n + 1 = omega arith in
    omega (arith, below_taken f xs n (omega (arith, l)), sum_by_more f xs n 0 (omega (arith, l)), ap (λ (k : ℕ). sum_by f (take k xs)) next)

pub below_places : (f : ℕ → ℕ) (xs : List ℕ) → sum_below (λ k. f (get_or xs k 0)) (length xs) ≡ sum_by f xs
below_places f xs = below_taken f xs (length xs) (omega arith) ∙ ap (sum_by f) (take_all (length xs) xs (omega arith))

-- a list with a number in it
split_at : (xs : List ℕ) (k x : ℕ) → slice_get xs k ≡ Some x → (ys : List ℕ) × (zs : List ℕ) × (xs ≡ ys ++ x ∷ zs)
split_at [] k x h = cc
split_at (y ∷ xs) zero x h = ([], xs, ap (λ z. z ∷ xs) (same_some y x h))
split_at (y ∷ xs) (suc k) x h = let (ys, zs, is) = split_at xs k x h in (y ∷ ys, zs, ap (λ z. y ∷ z) is)

-- without it, another number stays
still_there : (ys zs : List ℕ) (x k : ℕ) → (k ≡ x → ⊥) → Contains (ys ++ x ∷ zs) k → Contains (ys ++ zs) k
still_there ys zs x k other c = elim (Contains-append_cases ys (x ∷ zs) k c) [
  | inl left ↦ Contains-append_left ys zs k left
  | inr right ↦ elim (Contains-append_cases (x ∷ []) zs k right) [
    | inl one ↦ absurd (other (sym (contains_one x k one)))
    | inr rest ↦ Contains-append_right ys zs k rest
  ]
]

-- a list of so many numbers, in which each number below that stands
pub sum_by_all : (f : ℕ → ℕ) (n : ℕ) (xs : List ℕ) → length xs ≤ n → ((k : ℕ) → k < n → Contains xs k) → sum_by f xs ≡ sum_below f n
sum_by_all f zero [] l all = refl
sum_by_all f zero (x ∷ xs) l all = absurd (omega (arith, l))
sum_by_all f (suc n) xs l all =
    let k = contains_get xs n (all n (omega arith)) in
    let (ys, zs, is) = split_at xs k.0 n k.1 in
    let rest = sum_by_all f n (ys ++ zs) (omega (arith, l, ap length is, length-append ys (n ∷ zs), length-append ys zs))
    (λ i low. still_there ys zs n i (λ same. omega (arith, low, same)) (subst (λ us. Contains us i) is (all i (omega (arith, low))))) in
    omega (arith, rest, ap (sum_by f) is, sum_by-append f ys (n ∷ zs), sum_by-cons f n zs, sum_by-append f ys zs)

below_none : (f : ℕ → ℕ) (n : ℕ) → ((k : ℕ) → f k ≡ 0) → sum_below f n ≡ 0
below_none f zero none = refl
below_none f (suc n) none = omega (arith, below_none f n none, none n)

below_both : (f g h : ℕ → ℕ) (n : ℕ) → ((k : ℕ) → f k ≡ g k + h k) → sum_below f n ≡ sum_below g n + sum_below h n
below_both f g h zero both = refl
below_both f g h (suc n) both = omega (arith, below_both f g h n both, both n)

-- what counts at one number alone
counts_not : (b : Bool) (c : ℕ) → b ≡ false → cond b c 0 ≡ 0
counts_not b c e = ap (λ t. cond t c 0) e

counts_most : (b : Bool) (c : ℕ) → cond b c 0 ≤ c
counts_most true c = omega arith
counts_most false c = omega arith

apart : (i n : ℕ) (b : Bool) → (i == n) ≡ b → (n < i) → b ≡ false
apart i n true e l = absurd (let same = eqb-true i n e in omega (arith, same, l))
apart i n false e l = refl

none_before : (i c n : ℕ) → n ≤ i → sum_below (λ s. cond (i == s) c 0) n ≡ 0
none_before i c zero l = refl
none_before i c (suc n) l = omega (arith, none_before i c n (omega (arith, l)), counts_not (i == n) c (apart i n (i == n) refl (omega (arith, l))))

once_at : (i c n : ℕ) (b : Bool) → (i == n) ≡ b → sum_below (λ s. cond (i == s) c 0) n ≤ c → sum_below (λ s. cond (i == s) c 0) n + cond b c 0 ≤ c
once_at i c n true e l = let same = eqb-true i n e in omega (arith, none_before i c n (omega (arith, same)))
once_at i c n false e l = omega (arith, l)

once_below : (i c n : ℕ) → sum_below (λ s. cond (i == s) c 0) n ≤ c
once_below i c zero = omega arith
once_below i c (suc n) = once_at i c n (i == n) refl (once_below i c n)

-- what is sorted by numbers is no more than all of it
pub sorted_below : {X : Type 0} (place cost : X → ℕ) (n : ℕ) (xs : List X) → sum_below (λ s. sum_by (λ x. cond (place x == s) (cost x) 0) xs) n ≤ sum_by cost xs
sorted_below place cost n [] = omega (arith, below_none (λ s. sum_by (λ x. cond (place x == s) (cost x) 0) []) n (λ k. refl))
sorted_below place cost n (x ∷ xs) =
    omega (
      arith,
      below_both (λ s. sum_by (λ y. cond (place y == s) (cost y) 0) (x ∷ xs)) (λ s. cond (place x == s) (cost x) 0) (λ s. sum_by (λ y. cond (place y == s) (cost y) 0) xs) n
          (λ s. sum_by-cons (λ y. cond (place y == s) (cost y) 0) x xs),
      once_below (place x) (cost x) n,
      sorted_below place cost n xs,
      sum_by-cons cost x xs,
    )
