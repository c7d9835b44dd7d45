-- Lists of numbers: their places when one is put in between, and numbers that are replaced.
use Rattle.std.proofs.Common.{◌≡◌, ℕ, ◌+◌, ◌<◌, ◌≤◌, Bool, true, false, List, [], ◌∷◌, ◌++◌, length, refl, ap, arith, inl, inr, ◌⊎◌, zero, suc, Some, slice_get, slice_set, replicate}
use Rattle.std.specs.Option.{option_map_or}
use Rattle.std.proofs.lemmas.Bool.{cases_eq}
use Rattle.fragment_graph.proofs.Lists.{none_some, same_some, set_other, set_same}
use Rattle.graph_ways.specs.Leaving.{IsPlace, unmet}
use Rattle.graph_ways.specs.Order.{number_at}

-- a place, once an element was put in at another
abbrev pub Moved : ℕ → ℕ → ℕ → Type 0
Moved n j i = ((j < n) × (i ≡ j)) ⊎ ((n ≤ j) × (i ≡ j + 1))

-- the place of an element before another was put in
pub record Before (n : ℕ) (ns : List ℕ) (i v : ℕ) : Type 0 where
  pub place : ℕ
  pub moved : Moved n place i
  pub is : IsPlace ns place v

-- the place of an element after another was put in
pub record After (n : ℕ) (ns : List ℕ) (j v : ℕ) : Type 0 where
  pub place : ℕ
  pub moved : Moved n j place
  pub is : IsPlace ns place v

pub insert_here : (xs ys : List ℕ) (t : ℕ) → IsPlace (xs ++ t ∷ ys) (length xs) t
insert_here [] ys t = refl
insert_here (x ∷ xs) ys t = insert_here xs ys t

moved_more : (n j i : ℕ) → Moved n j i → Moved (suc n) (suc j) (suc i)
moved_more n j i (inl m) = inl (omega (arith, m.0), ap suc m.1)
moved_more n j i (inr m) = inr (omega (arith, m.0), omega (arith, m.1))

pub insert_after : (xs ys : List ℕ) (t j v : ℕ) → IsPlace (xs ++ ys) j v → After (length xs) (xs ++ t ∷ ys) j v
insert_after [] ys t j v h = record { place = suc j; moved = inr (omega arith, omega arith); is = h }
insert_after (x ∷ xs) ys t zero v h = record { place = 0; moved = inl (omega arith, refl); is = h }
insert_after (x ∷ xs) ys t (suc j) v h =
    let a = insert_after xs ys t j v h in
    record { place = suc a.place; moved = moved_more (length xs) j a.place a.moved; is = a.is }

pub insert_cases : (xs ys : List ℕ) (t i v : ℕ) → IsPlace (xs ++ t ∷ ys) i v
    → ((i ≡ length xs) × (t ≡ v)) ⊎ Before (length xs) (xs ++ ys) i v
insert_cases [] ys t zero v h = inl (refl, same_some t v h)
insert_cases [] ys t (suc i) v h = inr (record { place = i; moved = inr (omega arith, omega arith); is = h })
insert_cases (x ∷ xs) ys t zero v h = inr (record { place = 0; moved = inl (omega arith, refl); is = h })
insert_cases (x ∷ xs) ys t (suc i) v h = elim (insert_cases xs ys t i v h) [
  | inl e ↦ inl (ap suc e.0, e.1)
  | inr b ↦ inr (record { place = suc b.place; moved = moved_more (length xs) b.place i b.moved; is = b.is })
]

-- an element of a list in which one was replaced
pub set_cases : {X : Type 0} (xs : List X) (i j : ℕ) (x y z : X) → slice_get xs i ≡ Some x → slice_get (slice_set xs i y) j ≡ Some z
    → ((j ≡ i) × (y ≡ z)) ⊎ (slice_get xs j ≡ Some z)
set_cases xs i j x y z was is = elim (cases_eq j i) [
  | inl e ↦ let here = set_same xs i x y was in inl (e, cc)
  | inr ne ↦ let other = set_other xs i j y ne in inr cc
]

pub set_itself : {X : Type 0} (xs : List X) (i : ℕ) (x : X) → slice_get xs i ≡ Some x → slice_set xs i x ≡ xs
set_itself [] i x h = refl
set_itself (y ∷ xs) zero x h = ap (λ z. z ∷ xs) (same_some x y cc)
set_itself (y ∷ xs) (suc i) x h = ap (λ zs. y ∷ zs) (set_itself xs i x h)

pub number_same : (ns : List ℕ) (i x y : ℕ) → slice_get ns i ≡ Some x → number_at (slice_set ns i y) i ≡ y
number_same ns i x y h = ap (λ o. option_map_or (λ n. n) o 0) (set_same ns i x y h)

pub number_other : (ns : List ℕ) (i j y : ℕ) → (j ≡ i → ⊥) → number_at (slice_set ns i y) j ≡ number_at ns j
number_other ns i j y ne = ap (λ o. option_map_or (λ n. n) o 0) (set_other ns i j y ne)

pub number_is : (ns : List ℕ) (i x : ℕ) → slice_get ns i ≡ Some x → number_at ns i ≡ x
number_is ns i x h = ap (λ o. option_map_or (λ n. n) o 0) h

pub unmet_set : (met : List Bool) (t : ℕ) → slice_get met t ≡ Some false → unmet met ≡ unmet (slice_set met t true) + 1
unmet_set [] t h = absurd (none_some false h)
unmet_set (true ∷ met) zero h = let e : true ≡ false = same_some true false h in absurd cc
unmet_set (false ∷ met) zero h = refl
unmet_set (true ∷ met) (suc t) h = unmet_set met t h
unmet_set (false ∷ met) (suc t) h = ap (λ n. n + 1) (unmet_set met t h)

pub unmet_none : (met : List Bool) → ((v : ℕ) (b : Bool) → slice_get met v ≡ Some b → true ≡ b) → unmet met ≡ 0
unmet_none [] all = refl
unmet_none (true ∷ met) all = unmet_none met (λ v b h. all (suc v) b h)
unmet_none (false ∷ met) all = let e : true ≡ false = all 0 false refl in absurd cc

pub unmet_all : (n : ℕ) → unmet (replicate n false) ≡ n
unmet_all zero = refl
unmet_all (suc n) = let e = unmet_all n in omega arith
