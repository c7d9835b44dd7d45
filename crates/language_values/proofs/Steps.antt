-- What a test comes to over lists, one place further.
use Rattle.std.proofs.Common.{◌≡◌, ℕ, suc, ◌+◌, ◌<◌, ◌≤◌, List, [], ◌∷◌, ◌++◌, length, drop, get_or, Bool, true, false, ◌&&◌, ◌||◌, refl}
use Rattle.std.proofs.Common.{sym, ap, ◌∙◌, arith}
use Rattle.std.specs.List.{list_any, list_all}
use Rattle.std.specs.Cmp.Lexicographic.{pointwise}
use Rattle.std.specs.Bool.{◌==◌}
use Rattle.std.proofs.lemmas.Bool.Decides.{nat_tests}
use Rattle.std.proofs.lemmas.List.{drop_more, drop_all, nil_from_length}
use Rattle.std.proofs.lemmas.List.Folds.{list_all-append}

-- a list from one place on, with the member there first
from : {A : Type 0} (xs : List A) (i : ℕ) (x : A) → i < length xs → x ≡ get_or xs i x → drop i xs ≡ x ∷ drop (i + 1) xs
from xs i x here is = drop_more xs i x here ∙ ap (λ z. z ∷ drop (i + 1) xs) (sym is)

pub and_left_false : (a b : Bool) → a ≡ false → (a && b) ≡ false
and_left_false a b e = ap (λ w. w && b) e

pub and_right_false : (a b : Bool) → b ≡ false → (a && b) ≡ false
and_right_false true b e = e
and_right_false false b e = refl

nat_eq-suc : (n : ℕ) → (suc n == 0) ≡ false
nat_eq-suc n = grind (arith, nat_tests)

module _ {A B : Type 0} (T : A → B → Bool) where
  pub pairs_at : (xs : List A) (ys : List B) (i : ℕ) (x : A) (y : B) (b : Bool) → i < length xs → length xs ≡ length ys
      → x ≡ get_or xs i x → y ≡ get_or ys i y
      → T x y ≡ b → pointwise T (drop i xs) (drop i ys) ≡ (b && pointwise T (drop (i + 1) xs) (drop (i + 1) ys))
  pairs_at xs ys i x y b here as_long is also test =
      ap (λ zs. pointwise T zs (drop i ys)) (from xs i x here is)
      ∙ ap (pointwise T (x ∷ drop (i + 1) xs)) (from ys i y (omega arith) also)
      ∙ ap (λ c. c && pointwise T (drop (i + 1) xs) (drop (i + 1) ys)) test

  pub pairs_end : (xs : List A) (ys : List B) (i : ℕ) → length xs ≡ length ys → length xs ≤ i → pointwise T (drop i xs) (drop i ys) ≡ true
  pairs_end xs ys i as_long past =
      ap (λ zs. pointwise T zs (drop i ys)) (drop_all i xs past)
      ∙ ap (pointwise T []) (drop_all i ys (omega arith))

  pub pairs_of_lengths : (xs : List A) (ys : List B) → (length xs ≡ length ys → ⊥) → pointwise T xs ys ≡ false
  pairs_of_lengths [] [] differ = absurd (differ refl)
  pairs_of_lengths [] (y ∷ ys) differ = refl
  pairs_of_lengths (x ∷ xs) [] differ = refl
  pairs_of_lengths (x ∷ xs) (y ∷ ys) differ =
      and_right_false (T x y) (pointwise T xs ys) (pairs_of_lengths xs ys (λ e. differ (omega (arith, e))))

  -- both lists by their first members
  pub pairs_first : (xs xs' : List A) (ys ys' : List B) (x : A) (y : B) (b : Bool) → xs ≡ x ∷ xs' → ys ≡ y ∷ ys' → T x y ≡ b
      → pointwise T xs ys ≡ (b && pointwise T xs' ys')
  pairs_first xs xs' ys ys' x y b p q test = ap (λ zs. pointwise T zs ys) p ∙ ap (pointwise T (x ∷ xs')) q
      ∙ ap (λ c. c && pointwise T xs' ys') test

  pub pairs_of_none : (xs : List A) (ys : List B) (b : Bool) → length xs ≡ 0 → b ≡ (length ys == 0) → b ≡ pointwise T xs ys
  pairs_of_none [] [] b none is = is
  pairs_of_none [] (y ∷ ys) b none is = is ∙ nat_eq-suc (length ys)
  pairs_of_none (x ∷ xs) ys b none is = absurd (omega arith)

  pub pairs_past : (xs xs' : List A) (ys : List B) (x : A) → xs ≡ x ∷ xs' → length ys ≡ 0 → pointwise T xs ys ≡ false
  pairs_past xs xs' ys x p none = ap (λ zs. pointwise T zs ys) p ∙ ap (pointwise T (x ∷ xs')) (nil_from_length ys none)

shuffled : (o r f : Bool) → ((o && (r && true)) && (f && true)) ≡ ((f && r) && o)
shuffled true true true = refl
shuffled true true false = refl
shuffled true false true = refl
shuffled true false false = refl
shuffled false r f = sym (and_right_false (f && r) false refl)

turned : (a b : Bool) → (a && (b && true)) ≡ (b && a)
turned true true = refl
turned true false = refl
turned false b = sym (and_right_false b false refl)

module _ {A : Type 0} (test : A → Bool) where
  pub all_last : (xs ys : List A) (x : A) → xs ≡ ys ++ x ∷ [] → list_all test xs ≡ (test x && list_all test ys)
  all_last xs ys x e = ap (list_all test) e ∙ list_all-append test ys (x ∷ []) ∙ turned (list_all test ys) (test x)

  -- two more at the end
  pub all_put : (old mid new : List A) (a b : A) (first rest : Bool) → mid ≡ old ++ a ∷ [] → new ≡ mid ++ b ∷ [] → test a ≡ rest
      → test b ≡ first
      → list_all test new ≡ ((first && rest) && list_all test old)
  all_put old mid new a b first rest p q after before =
      ap (list_all test) (q ∙ ap (λ z. z ++ b ∷ []) p)
      ∙ list_all-append test (old ++ a ∷ []) (b ∷ [])
      ∙ ap (λ c. c && (test b && true)) (list_all-append test old (a ∷ []))
      ∙ ap (λ c. (list_all test old && (c && true)) && (test b && true)) after
      ∙ ap (λ c. (list_all test old && (rest && true)) && (c && true)) before
      ∙ shuffled (list_all test old) rest first

  pub all_at : (xs : List A) (i : ℕ) (x : A) (b : Bool) → i < length xs → x ≡ get_or xs i x → test x ≡ b
      → list_all test (drop i xs) ≡ (b && list_all test (drop (i + 1) xs))
  all_at xs i x b here is e = ap (list_all test) (from xs i x here is) ∙ ap (λ c. c && list_all test (drop (i + 1) xs)) e

  pub any_at : (xs : List A) (i : ℕ) (x : A) (b : Bool) → i < length xs → x ≡ get_or xs i x → test x ≡ b
      → list_any test (drop i xs) ≡ (b || list_any test (drop (i + 1) xs))
  any_at xs i x b here is e = ap (list_any test) (from xs i x here is) ∙ ap (λ c. c || list_any test (drop (i + 1) xs)) e

  pub all_end : (xs : List A) (i : ℕ) → length xs ≤ i → list_all test (drop i xs) ≡ true
  all_end xs i past = ap (list_all test) (drop_all i xs past)

  pub any_end : (xs : List A) (i : ℕ) → length xs ≤ i → list_any test (drop i xs) ≡ false
  any_end xs i past = ap (list_any test) (drop_all i xs past)
