-- Places at which a test holds.
use Rattle.std.proofs.Common.{◌≡◌, ℕ, ◌+◌, ◌-◌, ◌<◌, ◌≤◌, List, [], ◌∷◌, ◌++◌, length, refl, sym, subst, ap, arith, inl, inr, zero, suc, Bool, true, false, cond, Option, Some, slice_get, ◌∙◌, append_assoc, append-nil}
use Rattle.std.specs.List.{Contains, flat_map}
use Rattle.std.specs.Option.{option_map_or}
use Rattle.std.proofs.lemmas.Bool.{cases_lt}
use Rattle.std.proofs.lemmas.Grind.{flat_map-append}
use Rattle.std.proofs.lemmas.Option.{slice_get_within}
use Rattle.std.proofs.lemmas.List.Elements.{Contains-append_left, Contains-append_right}
use Rattle.fragment_graph.proofs.Lists.{same_item, none_some, same_some, one_contains}
use Rattle.fragment_graph.proofs.NamePaths.{split_get}
use Rattle.operation_scopes.specs.Places.{places_from}
use Rattle.operation_scopes.specs.Scopes.{IsOnce}

one_get : (b : Bool) (i m k : ℕ) → slice_get (cond b (i ∷ []) []) m ≡ Some k → (b ≡ true) × (i ≡ k)
one_get true i zero k h = (refl, same_some i k h)
one_get true i (suc m) k h = absurd (none_some k h)
one_get false i m k h = absurd (none_some k h)

one_has : (b : Bool) (i : ℕ) → b ≡ true → Contains (cond b (i ∷ []) []) i
one_has true i e = one_contains i
one_has false i e = cc

-- a place before others that are above it
one_before : (b : Bool) (i : ℕ) (rest : List ℕ) → ((m k : ℕ) → slice_get rest m ≡ Some k → i < k)
    → ((m n j k : ℕ) → m < n → slice_get rest m ≡ Some j → slice_get rest n ≡ Some k → j < k)
    → (m n j k : ℕ) → m < n → slice_get (cond b (i ∷ []) [] ++ rest) m ≡ Some j → slice_get (cond b (i ∷ []) [] ++ rest) n ≡ Some k → j < k
one_before false i rest above asc m n j k l h g = asc m n j k l h g
one_before true i rest above asc m zero j k l h g = absurd (omega (arith, l))
one_before true i rest above asc zero (suc n) j k l h g = subst (λ v. v < k) (same_some i j h) (above n k g)
one_before true i rest above asc (suc m) (suc n) j k l h g = asc m n j k (omega (arith, l)) h g

one_flat : {Y : Type 0} (b : Bool) (g : ℕ → List Y) (ys : List Y) (i : ℕ) → g i ≡ ys → flat_map g (cond b (i ∷ []) []) ≡ cond b ys []
one_flat true g ys i e = append-nil (g i) ∙ e
one_flat false g ys i e = refl

module _ {X : Type 0} (test : X → Bool) where
  pub places-append : (i : ℕ) (xs ys : List X) → places_from test i (xs ++ ys) ≡ places_from test i xs ++ places_from test (i + length xs) ys
  places-append i [] ys =
      let e : i ≡ i + 0 = omega arith in ap (λ k. places_from test k ys) e
  places-append i (x ∷ xs) ys =
      let e : (i + 1) + length xs ≡ i + length (x ∷ xs) = omega arith in
      ap (λ z. cond (test x) (i ∷ []) [] ++ z) (places-append (i + 1) xs ys ∙ ap (λ k. places_from test (i + 1) xs ++ places_from test k ys) e)
      ∙ sym (append_assoc (cond (test x) (i ∷ []) []) (places_from test (i + 1) xs) (places_from test (i + length (x ∷ xs)) ys))

  pub places-push : (xs : List X) (x : X) (k : ℕ) → length xs ≡ k → places_from test 0 (xs ++ x ∷ []) ≡ places_from test 0 xs ++ cond (test x) (k ∷ []) []
  places-push xs x k e =
      let f : 0 + length xs ≡ k = omega (arith, e) in
      places-append 0 xs (x ∷ []) ∙ ap (λ z. places_from test 0 xs ++ z) (append-nil (cond (test x) ((0 + length xs) ∷ []) []) ∙ ap (λ m. cond (test x) (m ∷ []) []) f)

  pub places_get : (i : ℕ) (xs : List X) (m k : ℕ) → slice_get (places_from test i xs) m ≡ Some k
      → (j : ℕ) × (x : X) × (i + j ≡ k) × (slice_get xs j ≡ Some x) × (test x ≡ true)
  places_get i [] m k h = absurd (none_some k h)
  places_get i (x ∷ xs) m k h = elim (split_get (cond (test x) (i ∷ []) []) (places_from test (i + 1) xs) m k h) [
    | inl a ↦ let e = one_get (test x) i a.0 k a.1 in let f = e.1 in (0, x, omega (arith, f), refl, e.0)
    | inr b ↦ let r = places_get (i + 1) xs b.0 k b.1 in let f = r.2 in (suc r.0, r.1, omega (arith, f), r.3, r.4)
  ]

  pub places_has : (i : ℕ) (xs : List X) (j : ℕ) (x : X) → slice_get xs j ≡ Some x → test x ≡ true → Contains (places_from test i xs) (i + j)
  places_has i [] j x h t = absurd (none_some x h)
  places_has i (y ∷ xs) zero x h t =
      let e : i ≡ i + 0 = omega arith in
      Contains-append_left (cond (test y) (i ∷ []) []) (places_from test (i + 1) xs) (i + 0)
      (subst (λ k. Contains (cond (test y) (i ∷ []) []) k) e (one_has (test y) i (ap test (same_some y x h) ∙ t)))
  places_has i (y ∷ xs) (suc j) x h t =
      let e : (i + 1) + j ≡ i + suc j = omega arith in
      Contains-append_right (cond (test y) (i ∷ []) []) (places_from test (i + 1) xs) (i + suc j)
      (subst (λ k. Contains (places_from test (i + 1) xs) k) e (places_has (i + 1) xs j x h t))

  pub ascending : (i : ℕ) (xs : List X) (m n j k : ℕ) → m < n → slice_get (places_from test i xs) m ≡ Some j → slice_get (places_from test i xs) n ≡ Some k → j < k
  ascending i [] m n j k l h g = absurd (none_some j h)
  ascending i (x ∷ xs) m n j k l h g =
      one_before (test x) i (places_from test (i + 1) xs)
      (λ a b at. let e = (places_get (i + 1) xs a b at).2 in omega (arith, e))
      (ascending (i + 1) xs) m n j k l h g

  pub places_once : (xs : List X) → IsOnce (places_from test 0 xs)
  places_once xs m n k h g = elim (cases_lt m n) [
    | inl l ↦ let low = ascending 0 xs m n k k l h g in absurd (omega (arith, low))
    | inr p ↦ elim (cases_lt n m) [
      | inl l ↦ let low = ascending 0 xs n m k k l g h in absurd (omega (arith, low))
      | inr q ↦ omega (arith, p, q)
    ]
  ]

  -- the last is not below another
  pub places_last : (xs : List X) (m j k : ℕ) → slice_get (places_from test 0 xs) (length (places_from test 0 xs) - 1) ≡ Some k → slice_get (places_from test 0 xs) m ≡ Some j → j ≤ k
  places_last xs m j k h g =
      let end : ℕ = length (places_from test 0 xs) - 1 in
      elim (cases_lt m end) [
        | inl l ↦ let low = ascending 0 xs m end j k l g h in omega (arith, low)
        | inr p ↦
            let inside = slice_get_within (places_from test 0 xs) m j g in
            let e : m ≡ length (places_from test 0 xs) - 1 = omega (arith, p, inside) in
            let same = same_item j k (slice_get (places_from test 0 xs) m) g (ap (λ i. slice_get (places_from test 0 xs) i) e ∙ h) in
            omega (arith, same)
      ]

  flat_from : {Y : Type 0} (f : X → List Y) (at : ℕ → Option X) (i : ℕ) (xs : List X) → ((j : ℕ) → at (i + j) ≡ slice_get xs j)
      → flat_map (λ k. option_map_or f (at k) []) (places_from test i xs) ≡ flat_map (λ x. cond (test x) (f x) []) xs
  flat_from f at i [] h = refl
  flat_from f at i (x ∷ xs) h =
      let g : ℕ → List _ = λ k. option_map_or f (at k) [] in
      let here : i + 0 ≡ i = omega arith in
      flat_map-append g (cond (test x) (i ∷ []) []) (places_from test (i + 1) xs)
      ∙ ap (λ z. z ++ flat_map g (places_from test (i + 1) xs)) (one_flat (test x) g (f x) i (ap (λ o. option_map_or f o []) (ap at (sym here) ∙ h 0)))
      ∙ ap (λ z. cond (test x) (f x) [] ++ z) (flat_from f at (i + 1) xs (λ j. let e : (i + 1) + j ≡ i + suc j = omega arith in ap at e ∙ h (suc j)))

  -- the items at these places are those that pass the test
  pub flat_places : {Y : Type 0} (f : X → List Y) (xs : List X)
      → flat_map (λ k. option_map_or f (slice_get xs k) []) (places_from test 0 xs) ≡ flat_map (λ x. cond (test x) (f x) []) xs
  flat_places f xs = flat_from f (slice_get xs) 0 xs (λ j. let e : 0 + j ≡ j = omega arith in ap (slice_get xs) e)
