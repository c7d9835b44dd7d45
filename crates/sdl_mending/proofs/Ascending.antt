-- Places that ascend, and the first of them that is not before a part of the text.
use Rattle.std.proofs.Common.{◌≡◌, ◌<◌, ◌≤◌, ◌&&◌, ◌⊎◌, ℕ, Bool, true, false, List, arith, inl, inr, length, get_or, leb, ltb, ltb-true, ltb-false, refl, sym}
use Rattle.std.specs.List.{list_any}
use Rattle.std.specs.List.Sorted.{IsNonDecreasingBy, IsPartitionPoint}
use Rattle.std.proofs.lemmas.Bool.{and_from, and_left, and_right, cases_lt, le-leb, le-ltb, lt-leb}
use Rattle.std.proofs.lemmas.List.{get_or_default}
use Rattle.std.proofs.lemmas.List.Folds.{list_any_at, list_any_none}

within : ℕ → ℕ → ℕ → Bool
within s e k = leb s k && ltb k e

before : (s e k : ℕ) → ltb k s ≡ true → within s e k ≡ false
unfolding within
before s e k h = and_left (leb s k) (ltb k e) (lt-leb s k (ltb-true k s h))

behind : (s e k : ℕ) → e ≤ k → within s e k ≡ false
unfolding within
behind s e k h = and_right (leb s k) (ltb k e) (le-ltb k e h)

module _ (xs : List ℕ) (i s e : ℕ) (sorted : IsNonDecreasingBy (λ (k : ℕ). k) xs) (at : IsPartitionPoint (λ k. ltb k s ≡ true) (λ k. ltb k s ≡ false) xs i) where
  out : (d : ℕ) → i < length xs → e ≤ get_or xs i d → (k f : ℕ) → k < length xs → (k < i) ⊎ (i ≤ k) → within s e (get_or xs k f) ≡ false
  out d here past k f l (inl h) = before s e (get_or xs k f) (at.0 k f (omega arith) h)
  out d here past k f l (inr h) =
      let rising = sorted i k f h l in
      let same = get_or_default xs i d f here in
      behind s e (get_or xs k f) (omega (arith, rising, same, past))

  by_first : (d : ℕ) (b : Bool) → i < length xs → ltb (get_or xs i d) e ≡ b → b ≡ list_any (within s e) xs
  unfolding within
  by_first d true here h =
      sym (list_any_at (λ k. leb s k && ltb k e) xs i d here (and_from (leb s (get_or xs i d)) (ltb (get_or xs i d) e) (le-leb s (get_or xs i d) (ltb-false (get_or xs i d) s (at.1 i d (omega arith) here))) h))
  by_first d false here h =
      sym (list_any_none (λ k. leb s k && ltb k e) xs (λ k f l. out d here (ltb-false (get_or xs i d) e h) k f l (cases_lt k i)))

  -- it decides whether one is in the part
  pub first_decides : (d : ℕ) → i < length xs → ltb (get_or xs i d) e ≡ list_any (λ k. leb s k && ltb k e) xs
  unfolding within
  first_decides d here = by_first d (ltb (get_or xs i d) e) here refl

  -- there is none
  pub none_decides : length xs ≤ i → false ≡ list_any (λ k. leb s k && ltb k e) xs
  unfolding within
  none_decides past = sym (list_any_none (λ k. leb s k && ltb k e) xs (λ k f l. before s e (get_or xs k f) (at.0 k f (omega arith) (omega (arith, past, l)))))
