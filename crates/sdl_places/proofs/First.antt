-- What the first item has, as a loop goes on, and that it is what one of the items has.
use Rattle.std.proofs.Common.{◌≡◌, ◌≢◌, ℕ, zero, suc, ◌+◌, ◌<◌, arith, List, [], ◌∷◌, Option, Some, None, length, get_or, drop, refl, sym, ap, ◌∙◌, subst, ◌⊎◌, inl, inr}
use Rattle.std.proofs.lemmas.List.{at_drop_more}
use Rattle.std.specs.List.{Any}
use Rattle.std.specs.Option.{option_or}
use Rattle.sdl_places.specs.Places.{first_in}

pub or_some : {B : Type 0} (o r : Option B) (y : B) → option_or o r ≡ Some y → (o ≡ Some y) ⊎ (r ≡ Some y)
or_some None r y e = inr e
or_some (Some x) r y e = inl e

pub or_none : {B : Type 0} (o r : Option B) → option_or o r ≡ None → (o ≡ None) × (r ≡ None)
or_none None r e = (refl, e)
or_none (Some x) r e = (e, cc)

-- a function finds something at an item only if that is so of the two, and then it finds something
pub record Finds {A B : Type 0} (f : A → Option B) (P : A → B → Type 0) : Type 0 where
  pub some : (x : A) (y : B) → f x ≡ Some y → P x y
  pub has : (x : A) (y : B) → P x y → f x ≢ None

module _ {A B : Type 0} (f : A → Option B) where
  at_next : (xs : List A) (i : ℕ) (x : A) → i < length xs → x ≡ get_or xs i x → first_in f (drop i xs) ≡ option_or (f x) (first_in f (drop (i + 1) xs))
  at_next xs i x here is = at_drop_more (first_in f) xs i x here ∙ ap (λ z. option_or (f z) (first_in f (drop (i + 1) xs))) (sym is)

  -- the item at an index has nothing
  pub goes_on : (xs : List A) (i : ℕ) (x : A) (w : Option B) → i < length xs → x ≡ get_or xs i x → f x ≡ None → w ≡ first_in f (drop i xs) → w ≡ first_in f (drop (i + 1) xs)
  goes_on xs i x w here is none before = before ∙ at_next xs i x here is ∙ ap (λ z. option_or z (first_in f (drop (i + 1) xs))) none

  -- it has something
  pub stops : (xs : List A) (i : ℕ) (x : A) (y : B) (w : Option B) → i < length xs → x ≡ get_or xs i x → f x ≡ Some y → w ≡ first_in f (drop i xs) → Some y ≡ w
  stops xs i x y w here is some before = sym (before ∙ at_next xs i x here is ∙ ap (λ z. option_or z (first_in f (drop (i + 1) xs))) some)

  module _ (P : A → B → Type 0) where
    later : (x : A) (xs : List A) (y : B) → Any (λ z. P z y) xs → Any (λ z. P z y) (x ∷ xs)
    later x xs y h = (suc h.0, h.1, omega (arith, h.2), h.3, h.4)

    pub some_first : ((x : A) (y : B) → f x ≡ Some y → P x y) → (xs : List A) (y : B) → first_in f xs ≡ Some y → Any (λ z. P z y) xs
    some_first law [] y e = cc
    some_first law (x ∷ xs) y e =
        elim (or_some (f x) (first_in f xs) y e) [ inl s ↦ (0, x, omega arith, refl, law x y s) | inr r ↦ later x xs y (some_first law xs y r) ]

    none_at : ((x : A) (y : B) → P x y → f x ≢ None) → (xs : List A) → first_in f xs ≡ None → (y : B) (k : ℕ) (z : A) → k < length xs → get_or xs k z ≡ z → P z y → ⊥
    none_at law [] e y k z here is p = omega (arith, here)
    none_at law (x ∷ xs) e y zero z here is p = law x y (subst (λ t. P t y) (sym is) p) (or_none (f x) (first_in f xs) e).0
    none_at law (x ∷ xs) e y (suc k) z here is p = none_at law xs (or_none (f x) (first_in f xs) e).1 y k z (omega (arith, here)) is p

-- the same of a list, whose first item that has something is taken
pub finds_first : {A B : Type 0} (f : A → Option B) (P : A → B → Type 0) → Finds f P → Finds (first_in f) (λ xs y. Any (λ x. P x y) xs)
finds_first f P found = record {
  some = some_first f P found.some;
  has = λ xs y h e. none_at f P found.has xs e y h.0 h.1 h.2 h.3 h.4;
}
