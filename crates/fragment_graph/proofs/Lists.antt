-- Lists by index.
use Rattle.std.proofs.Common.{◌≡◌, ℕ, ◌≤◌, List, [], ◌∷◌, ◌++◌, length, refl, sym, subst, ap, arith, inl, inr, ◌⊎◌, zero, suc, Option, Some, None, slice_get, ◌∙◌, slice_set}
use Rattle.std.specs.List.{Contains}
use Rattle.std.proofs.lemmas.Bool.{cases_eq}
use Rattle.std.proofs.lemmas.Option.{slice_get_within, get_or_from_slice_get, slice_get-get_or}
use Rattle.std.proofs.lemmas.List.Elements.{Contains-push}
pub use Rattle.name_tables.proofs.Lists.{get_last, get_some, none_some, same_some, set_other, set_same}

pub same_item : {X : Type 0} (x y : X) (o : Option X) → o ≡ Some x → o ≡ Some y → x ≡ y
same_item x y o h k = cc

pub get_more : {X : Type 0} (xs ys : List X) (i : ℕ) (x : X) → slice_get xs i ≡ Some x → slice_get (xs ++ ys) i ≡ Some x
get_more [] ys i x h = absurd (none_some x h)
get_more (z ∷ xs) ys zero x h = h
get_more (z ∷ xs) ys (suc i) x h = get_more xs ys i x h

pub get_snoc : {X : Type 0} (xs : List X) (y : X) (i : ℕ) (x : X) → slice_get (xs ++ y ∷ []) i ≡ Some x
    → (slice_get xs i ≡ Some x) ⊎ ((i ≡ length xs) × (y ≡ x))
get_snoc [] y zero x h = inr (refl, same_some y x h)
get_snoc [] y (suc i) x h = absurd (none_some x h)
get_snoc (z ∷ xs) y zero x h = inl h
get_snoc (z ∷ xs) y (suc i) x h = elim (get_snoc xs y i x h) [ inl a ↦ inl a | inr b ↦ inr (omega (arith, b.0), b.1) ]

pub get_end : {X : Type 0} (xs : List X) (x : X) (i : ℕ) → i ≡ length xs → slice_get (xs ++ x ∷ []) i ≡ Some x
get_end xs x i e = subst (λ (k : ℕ). slice_get (xs ++ x ∷ []) k ≡ Some x) (sym e) (get_last xs x)

pub get_none : {X : Type 0} (xs : List X) (i : ℕ) → slice_get xs i ≡ None → length xs ≤ i
get_none [] i h = omega arith
get_none (x ∷ xs) zero h = absurd (none_some x (sym h))
get_none (x ∷ xs) (suc i) h = let r : length xs ≤ i = get_none xs i h in omega (arith, r)

-- an element that differs from the one that was replaced
pub set_keep : {X : Type 0} (xs : List X) (i j : ℕ) (x y z : X) → slice_get xs i ≡ Some x → (x ≡ z → ⊥) → slice_get xs j ≡ Some z
    → slice_get (slice_set xs i y) j ≡ Some z
set_keep xs i j x y z at ne h = elim (cases_eq j i) [
  | inl e ↦ absurd (ne (same_item x z (slice_get xs i) at (subst (λ (k : ℕ). slice_get xs k ≡ Some z) e h)))
  | inr other ↦ set_other xs i j y other ∙ h
]

-- an element that differs from the new one
pub set_was : {X : Type 0} (xs : List X) (i j : ℕ) (x y z : X) → slice_get xs i ≡ Some x → (y ≡ z → ⊥) → slice_get (slice_set xs i y) j ≡ Some z
    → slice_get xs j ≡ Some z
set_was xs i j x y z at ne h = elim (cases_eq j i) [
  | inl e ↦ absurd (ne (same_item y z (slice_get (slice_set xs i y) i) (set_same xs i x y at) (subst (λ (k : ℕ). slice_get (slice_set xs i y) k ≡ Some z) e h)))
  | inr other ↦ sym (set_other xs i j y other) ∙ h
]

pub contains_at : {X : Type 0} (xs : List X) (k : ℕ) (x : X) → slice_get xs k ≡ Some x → Contains xs x
contains_at xs k x p = (k, slice_get_within xs k x p, get_or_from_slice_get xs k x x p)

pub contains_get : {X : Type 0} (xs : List X) (x : X) → Contains xs x → (k : ℕ) × (slice_get xs k ≡ Some x)
contains_get xs x c = (c.0, slice_get-get_or xs c.0 x c.1 ∙ ap Some c.2)

pub contains_none : {X : Type 0} (x : X) → Contains [] x → ⊥
contains_none x c = omega (arith, c.1)

pub contains_one : {X : Type 0} (x y : X) → Contains (x ∷ []) y → x ≡ y
contains_one x y c = let g = contains_get (x ∷ []) y c in elim (get_snoc [] x g.0 y g.1) [ inl h ↦ absurd (none_some y h) | inr e ↦ e.1 ]

pub one_contains : {X : Type 0} (x : X) → Contains (x ∷ []) x
one_contains x = Contains-push [] x
