-- Lists without repeats.
use Rattle.std.proofs.Common.{◌≡◌, ℕ, ◌+◌, List, [], ◌∷◌, ◌++◌, length, refl, sym, ap, arith, inl, inr, ◌⊎◌, zero, suc, Some, slice_get, ◌∙◌}
use Rattle.std.specs.List.{Contains, flat_map}
use Rattle.fragment_graph.proofs.Lists.{none_some, get_snoc, contains_at, contains_get}
use Rattle.fragment_graph.proofs.NamePaths.{flat_get}
use Rattle.operation_scopes.specs.Scopes.{IsOnce}

pub get_append : {X : Type 0} (xs ys : List X) (i : ℕ) (y : X) → slice_get (xs ++ ys) i ≡ Some y
    → (slice_get xs i ≡ Some y) ⊎ ((m : ℕ) × (i ≡ length xs + m) × (slice_get ys m ≡ Some y))
get_append [] ys i y h = inr (i, omega arith, h)
get_append (x ∷ xs) ys zero y h = inl h
get_append (x ∷ xs) ys (suc i) y h = elim (get_append xs ys i y h) [ inl a ↦ inl a | inr b ↦ let e = b.1 in inr (b.0, omega (arith, e), b.2) ]

pub once_none : {X : Type 0} → IsOnce {X = X} []
once_none i j x h k = absurd (none_some x h)

-- one more
pub once_push : {X : Type 0} (xs : List X) (y : X) → IsOnce xs → (Contains xs y → ⊥) → IsOnce (xs ++ y ∷ [])
once_push xs y once new i j x h k = elim (get_snoc xs y i x h) [
  | inl a ↦ elim (get_snoc xs y j x k) [
    | inl b ↦ once i j x a b
    | inr b ↦ absurd (new (contains_at xs i y (a ∙ ap Some (sym b.1))))
  ]
  | inr a ↦ elim (get_snoc xs y j x k) [
    | inl b ↦ absurd (new (contains_at xs j y (b ∙ ap Some (sym a.1))))
    | inr b ↦ a.0 ∙ sym b.0
  ]
]

-- two lists that share nothing
pub once_append : {X : Type 0} (xs ys : List X) → IsOnce xs → IsOnce ys → ((x : X) → Contains xs x → Contains ys x → ⊥) → IsOnce (xs ++ ys)
once_append xs ys a b apart i j x h k = elim (get_append xs ys i x h) [
  | inl p ↦ elim (get_append xs ys j x k) [
    | inl q ↦ a i j x p q
    | inr q ↦ absurd (apart x (contains_at xs i x p) (contains_at ys q.0 x q.2))
  ]
  | inr p ↦ elim (get_append xs ys j x k) [
    | inl q ↦ absurd (apart x (contains_at xs j x q) (contains_at ys p.0 x p.2))
    | inr q ↦ let e = p.1 in let f = q.1 in let g = b p.0 q.0 x p.2 q.2 in omega (arith, e, f, g)
  ]
]

once_rest : {X : Type 0} (x : X) (xs : List X) → IsOnce (x ∷ xs) → IsOnce xs
once_rest x xs once i j y h k = let e = once (suc i) (suc j) y h k in omega (arith, e)

later : {X : Type 0} (x : X) (xs : List X) (a : X) → Contains xs a → Contains (x ∷ xs) a
later x xs a c = let g = contains_get xs a c in contains_at (x ∷ xs) (suc g.0) a g.1

-- what lists of different members hold, where two share nothing
pub once_flat : {X Y : Type 0} (f : X → List Y) (xs : List X) → IsOnce xs → ((x : X) → IsOnce (f x))
    → ((a b : X) (y : Y) → Contains xs a → Contains xs b → Contains (f a) y → Contains (f b) y → a ≡ b) → IsOnce (flat_map f xs)
once_flat f [] once each apart = once_none
once_flat f (x ∷ xs) once each apart =
    once_append (f x) (flat_map f xs) (each x) (once_flat f xs (once_rest x xs once) each (λ a b y c d. apart a b y (later x xs a c) (later x xs b d))) (λ y c d.
    let at = contains_get (flat_map f xs) y d in
    let (z, (m, there), (n, here)) = flat_get f xs at.0 y at.1 in
    let same : x ≡ z = apart x z y (contains_at (x ∷ xs) 0 x refl) (contains_at (x ∷ xs) (suc m) z there) c (contains_at (f z) n y here) in
    let e = once 0 (suc m) z (ap Some same) there in omega (arith, e))
