-- Different numbers below n are at most n.
use Rattle.std.proofs.Common.{◌≡◌, ℕ, zero, suc, ◌<◌, ◌≤◌, List, [], ◌∷◌, ◌++◌, length, get_or, refl, sym, subst, ap, ◌∙◌, arith, false, true, Some, Option, slice_get, ◌||◌, inl, inr, length-append}
use Rattle.std.specs.List.{All, Contains, IsDistinct, list_any}
use Rattle.std.proofs.Math.Dec.{eqb}
use Rattle.std.proofs.lemmas.List.Elements.{All-head, All-tail, recursion_from_All}
use Rattle.std.proofs.lemmas.Option.{slice_get-get_or, slice_get_within, get_or_from_slice_get}
use Rattle.std.proofs.lemmas.Map.Steps.{length-le_from_distinct_below}
use Rattle.std.proofs.lemmas.Bool.Decides.{nat_tests}
use Rattle.std.proofs.lemmas.Bool.{cases_order}
use Rattle.merge_sets.specs.Opening.{NoRepeats}

not_eqb : (x y : ℕ) → (x ≡ y → ⊥) → eqb x y ≡ false
not_eqb x y ne = grind (arith, nat_tests)

eqb_is : (q x : ℕ) → eqb q x ≡ true → q ≡ x
eqb_is q x h = grind (arith, nat_tests)

pub repeats_tail : (x : ℕ) (xs : List ℕ) → NoRepeats (x ∷ xs) → NoRepeats xs
repeats_tail x xs d k l y lt p q = d (suc k) (suc l) y (omega (arith, lt)) p q

distinct_eqb : (xs : List ℕ) → NoRepeats xs → IsDistinct eqb xs
unfolding IsDistinct
distinct_eqb [] d = tt
distinct_eqb (x ∷ xs) d = (
  recursion_from_All (λ y. eqb x y ≡ false) xs
      (λ k e l. not_eqb x (get_or xs k e) (λ eq. d 0 (suc k) x (omega arith) refl (slice_get-get_or xs k e l ∙ ap (λ y. Some y) (sym eq)))),
  distinct_eqb xs (repeats_tail x xs d),
)

any_below : (n : ℕ) (xs : List ℕ) → All (λ x. x < n) xs → (q : ℕ) → list_any (eqb q) xs ≡ true → q < n
any_below n [] h q e = cc
any_below n (x ∷ xs) h q e =
    elim (eqb q x) as (λ b. eqb q x ≡ b → (b || list_any (eqb q) xs) ≡ true → q < n) [
      | true ↦ λ is z. subst (λ (k : ℕ). k < n) (sym (eqb_is q x is)) (All-head (λ y. y < n) x xs h)
      | false ↦ λ is z. any_below n xs (All-tail (λ y. y < n) x xs h) q z
    ] refl e

pub few_below : (xs : List ℕ) (n : ℕ) → NoRepeats xs → All (λ x. x < n) xs → length xs ≤ n
few_below xs n d h = length-le_from_distinct_below xs n (distinct_eqb xs d) (any_below n xs h)

get_front : (xs ys : List ℕ) (n : ℕ) → n < length xs → slice_get (xs ++ ys) n ≡ slice_get xs n
get_front [] ys n l = absurd (omega (arith, l))
get_front (x ∷ xs) ys zero l = refl
get_front (x ∷ xs) ys (suc n) l = get_front xs ys n (omega (arith, l))

get_last : (xs : List ℕ) (x : ℕ) → slice_get (xs ++ x ∷ []) (length xs) ≡ Some x
get_last [] x = refl
get_last (y ∷ xs) x = get_last xs x

same_item : (x y : ℕ) (o : Option ℕ) → o ≡ Some x → o ≡ Some y → x ≡ y
same_item x y o h k = cc

pub repeats_push : (xs : List ℕ) (y : ℕ) → NoRepeats xs → (Contains xs y → ⊥) → NoRepeats (xs ++ y ∷ [])
repeats_push xs y d fresh k l x lt p q =
    let inside : l < length (xs ++ y ∷ []) = slice_get_within (xs ++ y ∷ []) l x q in
    let short : k < length xs = omega (arith, inside, lt, length-append xs (y ∷ [])) in
    let first : slice_get xs k ≡ Some x = sym (get_front xs (y ∷ []) k short) ∙ p in
    elim (cases_order l (length xs)) [
      | inl eq ↦
          let is : y ≡ x = same_item y x (slice_get (xs ++ y ∷ []) l) (subst (λ (i : ℕ). slice_get (xs ++ y ∷ []) i ≡ Some y) (sym eq) (get_last xs y)) q in
          fresh (subst (λ (z : ℕ). Contains xs z) (sym is) (k, short, get_or_from_slice_get xs k x x first))
      | inr o ↦ elim o [
        | inl less ↦ d k l x lt first (sym (get_front xs (y ∷ []) l less) ∙ q)
        | inr more ↦ omega (arith, inside, more, length-append xs (y ∷ []))
      ]
    ]
