-- How the lists of places grow by the place of one more definition.
use Rattle.std.proofs.Common.{◌≡◌, ℕ, ◌<◌, List, [], ◌∷◌, ◌++◌, length, refl, sym, subst, ap, arith, zero, suc, Bool, true, false, cond, ◌∙◌, append-nil, Vec}
use Rattle.std.specs.declared.alloc.Global.{Global}
use Rattle.operation_scopes.specs.Places.{AddsAt, numbered_places, places_from}
use Rattle.operation_scopes.proofs.PlaceLists.{places-push}

pub none_at_all : (lists : List (Vec ℕ Global)) (k : ℕ) → lists ≡ [] → numbered_places lists k ≡ []
none_at_all lists k e = ap (λ zs. numbered_places zs k) e

none_pushed : (lists : List (Vec ℕ Global)) (v : Vec ℕ Global) → v.items ≡ [] → ((k : ℕ) → numbered_places lists k ≡ []) → (k : ℕ) → numbered_places (lists ++ v ∷ []) k ≡ []
none_pushed [] v e h zero = e
none_pushed [] v e h (suc k) = refl
none_pushed (x ∷ xs) v e h zero = h zero
none_pushed (x ∷ xs) v e h (suc k) = none_pushed xs v e (λ i. h (suc i)) k

pub none_more : (lists new : List (Vec ℕ Global)) (v : Vec ℕ Global) (k : ℕ) → new ≡ lists ++ v ∷ [] → v.items ≡ [] → ((i : ℕ) → numbered_places lists i ≡ []) → numbered_places new k ≡ []
none_more lists new v k e none h = ap (λ zs. numbered_places zs k) e ∙ none_pushed lists v none h k

-- what a list more leaves at the numbers before it
pub before_pushed : (lists : List (Vec ℕ Global)) (v : Vec ℕ Global) (k : ℕ) → k < length lists → numbered_places (lists ++ v ∷ []) k ≡ numbered_places lists k
before_pushed [] v k l = absurd (omega arith)
before_pushed (x ∷ xs) v zero l = refl
before_pushed (x ∷ xs) v (suc k) l = before_pushed xs v k (omega (arith, l))

-- and that of its own number
pub at_pushed : (lists : List (Vec ℕ Global)) (v : Vec ℕ Global) → numbered_places (lists ++ v ∷ []) (length lists) ≡ v.items
at_pushed [] v = refl
at_pushed (x ∷ xs) v = at_pushed xs v

pub false_true : false ≡ true → ⊥
false_true e = cc

pub not_true : (b : Bool) → (b ≡ true → ⊥) → b ≡ false
not_true true h = absurd (h refl)
not_true false h = refl

module _ {X : Type 0} (test : X → Bool) (xs : List X) (x : X) (place : ℕ) (len : length xs ≡ place) where
  pub next_places : (b : Bool) → test x ≡ b → places_from test 0 (xs ++ x ∷ []) ≡ places_from test 0 xs ++ cond b (place ∷ []) []
  next_places b e = places-push test xs x place len ∙ ap (λ c. places_from test 0 xs ++ cond c (place ∷ []) []) e

  pub same_places : test x ≡ false → places_from test 0 (xs ++ x ∷ []) ≡ places_from test 0 xs
  same_places e = next_places false e ∙ append-nil (places_from test 0 xs)

-- a test picks the definitions of each name, and those of the names of one number got one more place
module _ {N X : Type 0} (at : N → ℕ → Type 0) (test : N → X → Bool) (xs : List X) (x : X) (place : ℕ) (len : length xs ≡ place)
    (number : ℕ) (old new : List (Vec ℕ Global)) (adds : AddsAt number place old new) (low : number < length old)
    (here : (a : N) → at a number → test a x ≡ true) (only : (a : N) (k : ℕ) → at a k → test a x ≡ true → k ≡ number) where
  more_by : (a : N) (k : ℕ) → at a k → (b : Bool) → test a x ≡ b → numbered_places new k ≡ numbered_places old k ++ cond b (place ∷ []) []
  more_by a k h true e = subst (λ (i : ℕ). numbered_places new i ≡ numbered_places old i ++ place ∷ []) (sym (only a k h e)) (adds.added low)
  more_by a k h false e = adds.others k (λ q. false_true (sym e ∙ here a (subst (at a) q h))) ∙ sym (append-nil (numbered_places old k))

  pub each_more : ((a : N) (k : ℕ) → at a k → numbered_places old k ≡ places_from (test a) 0 xs) → (a : N) (k : ℕ) → at a k → numbered_places new k ≡ places_from (test a) 0 (xs ++ x ∷ [])
  each_more each a k h =
      more_by a k h (test a x) refl ∙ ap (λ z. z ++ cond (test a x) (place ∷ []) []) (each a k h) ∙ sym (next_places (test a) xs x place len (test a x) refl)
