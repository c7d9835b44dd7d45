-- The stretches of a list that grows at its end stay what they are.
use Rattle.std.proofs.Common.{◌≡◌, ◌≤◌, ◌-◌, ◌==◌, ℕ, List, [], ◌∷◌, ◌++◌, length, length-append, Option, Some, None, true, zero, suc, slice_get, slice_set, option_and_then, refl, sym, ap, subst, ◌∙◌, inl, inr, ◌⊎◌, arith}
use Rattle.std.specs.List.{flat_map}
use Rattle.std.proofs.lemmas.Bool.{cases_eq, or_left, or_right, or_cases}
use Rattle.std.proofs.lemmas.List.Folds.{list_any-append}
use Rattle.fragment_graph.proofs.Lists.{same_some, set_same, set_other}
use Rattle.merge_set_table.specs.Once.{is_among}
use Rattle.merge_set_table.proofs.Nesting.{range_kept, range_new}
use Rattle.merge_graph.specs.Building.{stretch_of, AreStretches}

abbrev Ends : Type 0
Ends = ℕ × ℕ

abbrev stretch_found : List ℕ → Option (Option Ends) → List ℕ
stretch_found order found = stretch_of order (option_and_then (λ o. o) found)

abbrev pub stretch_at : List ℕ → List (Option Ends) → ℕ → List ℕ
stretch_at order stretches p = stretch_found order (slice_get stretches p)

pub among_append : (xs ys : List ℕ) (k : ℕ) → (is_among xs k ≡ true) ⊎ (is_among ys k ≡ true) → is_among (xs ++ ys) k ≡ true
among_append xs ys k (inl h) = list_any-append (λ y. y == k) xs ys ∙ or_left (is_among xs k) (is_among ys k) h
among_append xs ys k (inr h) = list_any-append (λ y. y == k) xs ys ∙ or_right (is_among xs k) (is_among ys k) h

-- what stands in one stretch stands in all of them
pub among_all : (order : List ℕ) (stretches : List (Option Ends)) (p k : ℕ) → is_among (stretch_at order stretches p) k ≡ true → is_among (flat_map (stretch_of order) stretches) k ≡ true
among_all order [] p k h = h
among_all order (z ∷ zs) zero k h = among_append (stretch_of order z) (flat_map (stretch_of order) zs) k (inl h)
among_all order (z ∷ zs) (suc p) k h = among_append (stretch_of order z) (flat_map (stretch_of order) zs) k (inr (among_all order zs p k h))

-- what stands in all of them stands in one
pub among_some : (order : List ℕ) (stretches : List (Option Ends)) (k : ℕ) → is_among (flat_map (stretch_of order) stretches) k ≡ true → (p : ℕ) × (is_among (stretch_at order stretches p) k ≡ true)
among_some order [] k h = cc
among_some order (z ∷ zs) k h =
    elim (or_cases (is_among (stretch_of order z) k) (is_among (flat_map (stretch_of order) zs) k) (sym (list_any-append (λ y. y == k) (stretch_of order z) (flat_map (stretch_of order) zs)) ∙ h)) [
      | inl e ↦ (0, e)
      | inr e ↦ (let (p, at) = among_some order zs k e in (suc p, at))
    ]

-- a free place gets the end of an order that grew
module _ (xs ys : List ℕ) (stretches : List (Option Ends)) (place : ℕ) (free : slice_get stretches place ≡ Some None) (within : AreStretches xs stretches) where
  abbrev new : Option Ends
  new = Some (length xs, length (xs ++ ys))

  abbrev now : List (Option Ends)
  now = slice_set stretches place new

  stands : slice_get now place ≡ Some new
  stands = set_same stretches place None new free

  pub new_stretch : stretch_at (xs ++ ys) now place ≡ ys
  new_stretch = ap (stretch_found (xs ++ ys)) stands ∙ range_new xs ys

  kept : (p : ℕ) (o : Option (Option Ends)) → slice_get stretches p ≡ o → stretch_found (xs ++ ys) o ≡ stretch_found xs o
  kept p None h = refl
  kept p (Some None) h = refl
  kept p (Some (Some ends)) h = let w = within p ends.0 ends.1 h in range_kept xs ys ends.0 ends.1 w.0 w.1

  -- another place keeps its stretch
  pub same_stretch : (p : ℕ) → (p ≡ place → ⊥) → stretch_at (xs ++ ys) now p ≡ stretch_at xs stretches p
  same_stretch p ne = ap (stretch_found (xs ++ ys)) (set_other stretches place p new ne) ∙ kept p (slice_get stretches p) refl

  -- what stood at a place still does: it was not at the free one, where nothing stood
  pub stays : (p k : ℕ) → is_among (stretch_at xs stretches p) k ≡ true → is_among (stretch_at (xs ++ ys) now p) k ≡ true
  stays p k h = elim (cases_eq p place) [
    | inl same ↦ absurd (nothing (subst (λ o. is_among (stretch_found xs o) k ≡ true) (ap (slice_get stretches) same ∙ free) h))
    | inr ne ↦ subst (λ ws. is_among ws k ≡ true) (sym (same_stretch p ne)) h
  ]
    where
      nothing : is_among [] k ≡ true → ⊥
      nothing e = cc

  pub still_within : AreStretches (xs ++ ys) now
  still_within p start end h =
      let long = length-append xs ys in
      elim (cases_eq p place) [
        | inl same ↦
            let is : new ≡ Some (start, end) = same_some new (Some (start, end)) (sym stands ∙ ap (slice_get now) (sym same) ∙ h) in
            let ends = same_some (length xs, length (xs ++ ys)) (start, end) is in
            let first : length xs ≡ start = ap (λ (e : Ends). e.0) ends in
            let last : length (xs ++ ys) ≡ end = ap (λ (e : Ends). e.1) ends in
            let low : start ≤ end = omega (arith, first, last, long) in
            let high : end ≤ length (xs ++ ys) = omega (arith, last) in
            (low, high)
        | inr ne ↦
            let w = within p start end (sym (set_other stretches place p new ne) ∙ h) in
            let high = w.1 in
            (w.0, omega (arith, high, long))
      ]
