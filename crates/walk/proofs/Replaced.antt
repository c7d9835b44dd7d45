-- Types that take the place of those that were pushed last.
use Rattle.std.proofs.Common.{◌≡◌, ℕ, ◌-◌, ◌<◌, List, [], ◌∷◌, ◌++◌, length, map, take, slice_set, refl, ap, sym, ◌∙◌, arith}
use Rattle.std.proofs.lemmas.List.{length-map}
use Rattle.events.specs.EventValue.{typing_of}
use Rattle.events.specs.declared.typed_events.TypesOf.{TypesOf}
use Rattle.walk.specs.ContextState.{ContextState, typing, pushed, popped}
use Rattle.walk.proofs.Runs.{typing-pushed, popped-pushed}

replaced-at : {A B : Type 0} (f : A → B) (x : A) (xs : List A) (y : A) → map f (slice_set (x ∷ xs) (length xs) y) ≡ take (length xs) (map f (x ∷ xs)) ++ f y ∷ []
replaced-at f x [] y = refl
replaced-at f x (z ∷ zs) y = ap (λ ws. f x ∷ ws) (replaced-at f z zs y)

length-mapped : {A B : Type 0} (f : A → B) (x : A) (xs : List A) → length (map f (x ∷ xs)) - 1 ≡ length xs
length-mapped f x xs = omega (arith, length-map xs f)

-- what is written over the last item comes in its place
replaced-last : {A B : Type 0} (f : A → B) (xs : List A) (n : ℕ) (y : A) → n ≡ length xs → 0 < n → map f (slice_set xs (n - 1) y) ≡ take (length (map f xs) - 1) (map f xs) ++ f y ∷ []
replaced-last f [] n y e p = absurd (omega (arith, e, p))
replaced-last f (x ∷ xs) n y e p =
    let k : n - 1 ≡ length xs = omega (arith, e) in
    ap (λ m. map f (slice_set (x ∷ xs) m y)) k ∙ replaced-at f x xs y ∙ ap (λ m. take m (map f (x ∷ xs)) ++ f y ∷ []) (sym (length-mapped f x xs))

module _ {S C : Type 0} (w : ContextState S C) (ts : List (TypesOf S C)) (n : ℕ) (t : TypesOf S C) (e : w.typings ≡ map typing_of ts) (l : n ≡ length ts) (some : 0 < n) where
  -- the context with these types in place of the last
  replaced : record w { typings = map typing_of (slice_set ts (n - 1) t) } ≡ pushed (popped w) (typing_of t)
  replaced = ap (λ zs. record w { typings = zs }) (replaced-last typing_of ts n t l some ∙ ap (λ zs. take (length zs - 1) zs ++ typing_of t ∷ []) (sym e))

  pub popped-replaced : popped (record w { typings = map typing_of (slice_set ts (n - 1) t) }) ≡ popped w
  popped-replaced = ap popped replaced ∙ popped-pushed (popped w) (typing_of t)

  pub typing-replaced : typing (record w { typings = map typing_of (slice_set ts (n - 1) t) }) ≡ typing_of t
  typing-replaced = ap typing replaced ∙ typing-pushed (popped w) (typing_of t)
