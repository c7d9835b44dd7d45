-- Lists with one element more.
use Rattle.std.proofs.Common.{◌≡◌, ℕ, zero, suc, ◌<◌, ◌≤◌, List, [], ◌∷◌, ◌++◌, length, Some, slice_get, slice_set, refl, sym, ap, subst, arith, ◌⊎◌, inl, inr, true}
use Rattle.std.specs.List.{All}
use Rattle.std.proofs.lemmas.List.Elements.{All-nil, All-cons, All-head, All-tail}
use Rattle.std.proofs.lemmas.Bool.{or_left, or_right, or_cases, eq-eqb, eqb-true}
use Rattle.merge_set_table.specs.Once.{is_among}

pub get_more : {X : Type 0} (xs ys : List X) (n : ℕ) (x : X) → slice_get xs n ≡ Some x → slice_get (xs ++ ys) n ≡ Some x
get_more [] ys n x h = cc
get_more (y ∷ xs) ys zero x h = h
get_more (y ∷ xs) ys (suc n) x h = get_more xs ys n x h

pub get_front : {X : Type 0} (xs ys : List X) (n : ℕ) → n < length xs → slice_get (xs ++ ys) n ≡ slice_get xs n
get_front [] ys n l = absurd (omega (arith, l))
get_front (x ∷ xs) ys zero l = refl
get_front (x ∷ xs) ys (suc n) l = get_front xs ys n (omega (arith, l))

pub get_last : {X : Type 0} (xs : List X) (x : X) → slice_get (xs ++ x ∷ []) (length xs) ≡ Some x
get_last [] x = refl
get_last (y ∷ xs) x = get_last xs x

-- nothing is put past the end
pub set_past : {X : Type 0} (xs : List X) (k : ℕ) (x : X) → length xs ≤ k → slice_set xs k x ≡ xs
set_past [] k x l = refl
set_past (y ∷ ys) zero x l = absurd (omega (arith, l))
set_past (y ∷ ys) (suc k) x l = ap (λ zs. y ∷ zs) (set_past ys k x (omega (arith, l)))

pub set_length : {X : Type 0} (xs : List X) (k : ℕ) (x : X) → length (slice_set xs k x) ≡ length xs
set_length [] k x = refl
set_length (y ∷ ys) zero x = refl
set_length (y ∷ ys) (suc k) x = ap suc (set_length ys k x)

pub same_some : {X : Type 0} (x y : X) → Some x ≡ Some y → x ≡ y
same_some x y e = cc

-- what stands in a list with one element more
pub get_snoc : {X : Type 0} (xs : List X) (x : X) (n : ℕ) (y : X) → slice_get (xs ++ x ∷ []) n ≡ Some y → (slice_get xs n ≡ Some y) ⊎ ((n ≡ length xs) × (y ≡ x))
get_snoc [] x zero y h = inr (refl, sym (same_some x y h))
get_snoc [] x (suc n) y h = cc
get_snoc (z ∷ xs) x zero y h = inl h
get_snoc (z ∷ xs) x (suc n) y h = elim (get_snoc xs x n y h) [ inl e ↦ inl e | inr e ↦ inr (ap suc e.0, e.1) ]

pub among_from_get : (xs : List ℕ) (n x : ℕ) → slice_get xs n ≡ Some x → is_among xs x ≡ true
among_from_get [] n x h = cc
among_from_get (y ∷ xs) zero x h = or_left _ (is_among xs x) (eq-eqb y x (same_some y x h))
among_from_get (y ∷ xs) (suc n) x h = or_right _ (is_among xs x) (among_from_get xs n x h)

-- what holds of each number of one list holds of each of another with no others
pub All-among : (P : ℕ → Type 0) (xs ys : List ℕ) → ((x : ℕ) → is_among ys x ≡ true → is_among xs x ≡ true) → All P xs → All P ys
All-among P xs [] h all = All-nil P
All-among P xs (y ∷ ys) h all =
    All-cons P y ys (among_holds xs y (h y (or_left _ (is_among ys y) (eq-eqb y y refl))) all)
    (All-among P xs ys (λ x i. h x (or_right _ (is_among ys x) i)) all)
  where
    among_holds : (zs : List ℕ) (y : ℕ) → is_among zs y ≡ true → All P zs → P y
    among_holds [] y i all = cc
    among_holds (z ∷ zs) y i all = elim (or_cases _ (is_among zs y) i) [
      | inl e ↦ subst P (eqb-true z y e) (All-head P z zs all)
      | inr e ↦ among_holds zs y e (All-tail P z zs all)
    ]
