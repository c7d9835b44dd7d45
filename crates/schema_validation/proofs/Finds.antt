-- Finding in lists that are joined.
use Rattle.std.proofs.Common.{◌≡◌, ℕ, ◌+◌, ◌<◌, List, [], ◌∷◌, ◌++◌, Bool, true, false, not, ◌&&◌, cond, Option, Some, None, length, suc, get_or, drop, drop-cons, add-one, refl, ap, subst, sym, ◌∙◌, arith}
use Rattle.std.specs.Prelude.{find, Contains}
use Rattle.std.specs.List.{flat_map, list_all}
use Rattle.std.proofs.lemmas.List.Elements.{All-contains, Contains-get_or, Contains-append_right}
use Rattle.std.proofs.lemmas.List.Sums.{AllPass-from_list_all}

module _ {A : Type 0} (p : A → Bool) where
  some_step : (b : Bool) (x : A) (o r r' : Option A) → o ≡ cond b (Some x) r → (o ≡ r → o ≡ r') → o ≡ cond b (Some x) r'
  some_step true x o r r' h k = h
  some_step false x o r r' h k = k h

  pub find-append-Some : (xs ys : List A) (x : A) → Some x ≡ find p xs → Some x ≡ find p (xs ++ ys)
  find-append-Some [] ys x h = cc
  find-append-Some (z ∷ zs) ys x h = some_step (p z) z (Some x) (find p zs) (find p (zs ++ ys)) h (find-append-Some zs ys x)

  none_step : (b : Bool) (x : A) (r s t : Option A) → None ≡ cond b (Some x) r → (None ≡ r → s ≡ t) → cond b (Some x) s ≡ t
  none_step true x r s t h k = cc
  none_step false x r s t h k = k h

  pub find-append-None : (xs ys : List A) → None ≡ find p xs → find p (xs ++ ys) ≡ find p ys
  find-append-None [] ys h = refl
  find-append-None (z ∷ zs) ys h = none_step (p z) z (find p zs) (find p (zs ++ ys)) (find p ys) h (find-append-None zs ys)

-- the rest of a list from an index on begins with the element there
pub rest_at : {X : Type 0} (xs : List X) (i : ℕ) (x : X) → i < length xs → x ≡ get_or xs i x → drop i xs ≡ x ∷ drop (i + 1) xs
rest_at xs i x h e = drop-cons xs i x h ∙ ap (λ y. y ∷ drop (suc i) xs) (sym e) ∙ ap (λ k. x ∷ drop k xs) (sym (add-one i))

-- a step of a loop that looks through the names of each element in turn
module _ {X A : Type 0} (p : A → Bool) (f : X → List A) (xs : List X) (i : ℕ) (x : X) (h : i < length xs) (e : x ≡ get_or xs i x) (so_far : find p (flat_map f xs) ≡ find p (flat_map f (drop i xs))) where
  pub found_here : (a : A) → Some a ≡ find p (f x) → Some a ≡ find p (flat_map f xs)
  found_here a k = find-append-Some p (f x) (flat_map f (drop (i + 1) xs)) a k ∙ ap (λ l. find p (flat_map f l)) (sym (rest_at xs i x h e)) ∙ sym so_far

  pub not_here : None ≡ find p (f x) → find p (flat_map f xs) ≡ find p (flat_map f (drop (i + 1) xs))
  not_here k = so_far ∙ ap (λ l. find p (flat_map f l)) (rest_at xs i x h e) ∙ find-append-None p (f x) (flat_map f (drop (i + 1) xs)) k

module _ {A : Type 0} (q : A → Bool) where
  passes_step : (b : Bool) (x a : A) (r : Option A) → q x ≡ b → Some a ≡ cond b (Some x) r → (Some a ≡ r → q a ≡ true) → q a ≡ true
  passes_step true x a r e h k = let same : a ≡ x = cc in ap q same ∙ e
  passes_step false x a r e h k = k h

  -- what is found passes the test
  pub found-passes : (xs : List A) (a : A) → Some a ≡ find q xs → q a ≡ true
  found-passes [] a h = cc
  found-passes (x ∷ xs) a h = passes_step (q x) x a (find q xs) refl h (found-passes xs a)

  among_step : (b : Bool) (x a : A) (xs : List A) (r : Option A) → Some a ≡ cond b (Some x) r → (Some a ≡ r → Contains xs a) → Contains (x ∷ xs) a
  among_step true x a xs r h k = let same : x ≡ a = cc in subst (Contains (x ∷ xs)) same (Contains-get_or (x ∷ xs) 0 x (omega arith))
  among_step false x a xs r h k = Contains-append_right (x ∷ []) xs a (k h)

  -- and is an element
  pub found-among : (xs : List A) (a : A) → Some a ≡ find q xs → Contains xs a
  found-among [] a h = cc
  found-among (x ∷ xs) a h = among_step (q x) x a xs (find q xs) h (found-among xs a)

-- an element of a list whose elements all pass a test
pub all-at : {A : Type 0} (p : A → Bool) (xs : List A) (a : A) → list_all p xs ≡ true → Contains xs a → p a ≡ true
all-at p xs a h k = All-contains (λ x. p x ≡ true) xs a (AllPass-from_list_all p xs h) k

module _ {A : Type 0} (p : A → Bool) where
  none_all_step : (b : Bool) (x : A) (r : Option A) (t : Bool) → None ≡ cond (not b) (Some x) r → (None ≡ r → t ≡ true) → (b && t) ≡ true
  none_all_step true x r t h k = k h
  none_all_step false x r t h k = cc

  -- where nothing fails a test, each passes it
  pub all-if_none : (xs : List A) → None ≡ find (λ x. not (p x)) xs → list_all p xs ≡ true
  all-if_none [] h = refl
  all-if_none (x ∷ xs) h = none_all_step (p x) x (find (λ y. not (p y)) xs) (list_all p xs) h (all-if_none xs)

pub not-true : (b : Bool) → not b ≡ true → b ≡ false
not-true true h = cc
not-true false h = refl
