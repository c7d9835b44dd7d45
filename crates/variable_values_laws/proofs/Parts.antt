-- What the elements of a list give, where it is nothing.
use Rattle.std.proofs.Common.{◌≡◌, ℕ, ◌+◌, List, [], ◌∷◌, ◌++◌, Contains, map, zero, suc, refl, sym, subst, arith}
use Rattle.variable_values.specs.InTurn.{InTurn}

pub front_none : {R : Type 0} (xs ys : List R) → [] ≡ xs ++ ys → [] ≡ xs
front_none [] ys e = refl
front_none (x ∷ xs) ys e = cc

pub back_none : {R : Type 0} (xs ys : List R) → [] ≡ xs ++ ys → [] ≡ ys
back_none [] ys e = e
back_none (x ∷ xs) ys e = cc

pub mapped_none : {A B : Type 0} (f : A → B) (xs : List A) → [] ≡ map f xs → [] ≡ xs
mapped_none f [] e = refl
mapped_none f (x ∷ xs) e = cc

pub contains_first : {X : Type 0} (x : X) (xs : List X) → Contains (x ∷ xs) x
contains_first x xs = (0, omega arith, refl)

pub contains_rest : {X : Type 0} (y : X) (xs : List X) (x : X) → Contains xs x → Contains (y ∷ xs) x
contains_rest y xs x (i, here, is) = (suc i, omega arith, is)

pub contains_none : {X : Type 0} (x : X) → Contains [] x → ⊥
contains_none x (i, here, is) = omega arith

module _ {X R : Type 0} (gives : ℕ → X → List R → Type 0) where
  -- where all together give nothing, each gives nothing
  pub none_in_turn : (i : ℕ) (xs : List X) (x : X) → Contains xs x → InTurn gives i xs [] → (n : ℕ) × gives n x []
  none_in_turn i [] x (j, here, is) t = absurd (omega arith)
  none_in_turn i (y ∷ ys) x (zero, here, is) (f, r, g, t, e) = (i, subst (λ z. gives i z []) is (subst (gives i y) (sym (front_none f r e)) g))
  none_in_turn i (y ∷ ys) x (suc j, here, is) (f, r, g, t, e) = none_in_turn (i + 1) ys x (j, omega arith, is) (subst (InTurn gives (i + 1) ys) (sym (back_none f r e)) t)

  -- where each gives nothing, all together do
  pub in_turn_none : (i : ℕ) (xs : List X) → ((n : ℕ) (x : X) → Contains xs x → gives n x []) → InTurn gives i xs []
  in_turn_none i [] h = refl
  in_turn_none i (x ∷ xs) h = ([], [], h i x (contains_first x xs), in_turn_none (i + 1) xs (λ n y c. h n y (contains_rest x xs y c)), refl)
