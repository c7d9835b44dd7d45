-- Laws of runs.
use Rattle.std.proofs.Common.{◌≡◌, ◌-◌, List, [], ◌∷◌, ◌++◌, length, take, slice_get, Some, refl, ap, sym, ◌∙◌, subst, append_assoc, arith, length-append, Result, Ok, Err, OnErr, OnOk}
use Rattle.std.proofs.lemmas.List.{append-nil}
use Rattle.walk.specs.declared.multi_visitor.MultiVisitorCons.{MultiVisitorCons}
use Rattle.walk.specs.Pair.{pair_step}
use Rattle.walk.specs.ErrorValue.{ErrorValue, shares}
use Rattle.events.specs.Typing.{Typing}
use Rattle.walk.specs.ContextState.{ContextState, HasTypes, fitting, scope_of_context, with_errors, typing, pushed, popped, or_untyped}
use Rattle.events.specs.TypedEvent.{TypedEvent}
use Rattle.walk.proofs.Kept.{with_more, with_none}
use Rattle.walk.specs.Step.{StepOf, Run, Stepped, Ran, KeepsPlace}

module _ {E V R : Type 0} (step : E → V → V → List R → Type 0) where
  -- one run goes on where another ended
  pub Run-append : (xs ys : List E) (a b c : V) (es fs : List R) → Run step xs a b es → Run step ys b c fs → Run step (xs ++ ys) a c (es ++ fs)
  Run-append [] ys a b c es fs r q =
      subst (λ z. Run step ys a c (z ++ fs)) (sym r.1) (subst (λ z. Run step ys z c fs) r.0 q)
  Run-append (x ∷ xs) ys a b c es fs (mid, first, rest, s, r, e) q =
      (mid, first, rest ++ fs, s, Run-append xs ys mid b c rest fs r q, ap (λ z. z ++ fs) e ∙ append_assoc first rest fs)

  -- a run of one step
  pub Run-one : (x : E) (a b : V) (es : List R) → step x a b es → Run step (x ∷ []) a b es
  Run-one x a b es s = (b, es, [], s, (refl, refl), sym (append-nil es))

  -- a run through two lists stops between them
  pub Run-split : (xs ys : List E) (a c : V) (es : List R) → Run step (xs ++ ys) a c es → (b : V) × (fs : List R) × (gs : List R) × Run step xs a b fs × Run step ys b c gs × (es ≡ fs ++ gs)
  Run-split [] ys a c es r = (a, [], es, (refl, refl), r, refl)
  Run-split (x ∷ xs) ys a c es (mid, first, rest, s, r, e) =
      let (b, fs, gs, p, q, e') = Run-split xs ys mid c rest r in
      (b, first ++ fs, gs, (mid, first, fs, s, p, refl), q, e ∙ ap (λ z. first ++ z) e' ∙ sym (append_assoc first fs gs))

-- what was pushed last is at hand
slice_get-seam : {A : Type 0} (xs : List A) (x : A) → slice_get (xs ++ x ∷ []) (length xs) ≡ Some x
slice_get-seam [] x = refl
slice_get-seam (y ∷ xs) x = slice_get-seam xs x

take-seam : {A : Type 0} (xs : List A) (x : A) → take (length xs) (xs ++ x ∷ []) ≡ xs
take-seam [] x = refl
take-seam (y ∷ xs) x = ap (λ zs. y ∷ zs) (take-seam xs x)

length-pushed : {A : Type 0} (xs : List A) (x : A) → length (xs ++ x ∷ []) - 1 ≡ length xs
length-pushed xs x = omega (arith, length-append xs (x ∷ []))

pub typing-pushed : {S C : Type 0} (w : ContextState S C) (t : Typing S C) → typing (pushed w t) ≡ t
typing-pushed w t =
    let e : slice_get (w.typings ++ t ∷ []) (length (w.typings ++ t ∷ []) - 1) ≡ Some t = rw (length-pushed w.typings t) (slice_get-seam w.typings t) in ap or_untyped e

-- and goes first
pub take-pushed : {A : Type 0} (xs : List A) (x : A) → take (length (xs ++ x ∷ []) - 1) (xs ++ x ∷ []) ≡ xs
take-pushed xs x = rw (length-pushed xs x) (take-seam xs x)

pub popped-pushed : {S C : Type 0} (w : ContextState S C) (t : Typing S C) → popped (pushed w t) ≡ w
popped-pushed w t = ap (λ ts. record w { typings = ts }) (take-pushed w.typings t)

pub popped-reported : {S C : Type 0} (w : ContextState S C) (t : Typing S C) (es : List ErrorValue) → popped (with_errors (pushed w t) es) ≡ with_errors w es
popped-reported w t es = ap (λ ts. record w { typings = ts; errors = w.errors ++ fitting w.limit (shares w.errors) es }) (take-pushed w.typings t)

pub popped-left : {S C : Type 0} (w left : ContextState S C) (t : Typing S C) → left.typings ≡ (pushed w t).typings → (popped left).typings ≡ w.typings
popped-left w left t e = ap (λ ts. take (length ts - 1) ts) e ∙ take-pushed w.typings t

module _ {S C V : Type 0} (step : StepOf S C V) where
  pub Ran-none : (a : V) (w : ContextState S C) → Ran step [] a a w w
  Ran-none a w = ([], (refl, refl), with_none w)

  pub Ran-one : (m : TypedEvent S C) (a b : V) (w w' : ContextState S C) → Stepped step m a b w w' → Ran step (m ∷ []) a b w w'
  Ran-one m a b w w' (es, s, e) = (es, Run-one (step (scope_of_context w)) m a b es s, e)

  -- a run, and another behind it
  pub Ran-append : (ms ns : List (TypedEvent S C)) (a b c : V) (w w' w'' : ContextState S C) → Ran step ms a b w w' → Ran step ns b c w' w'' → Ran step (ms ++ ns) a c w w''
  Ran-append ms ns a b c w w' w'' (es, r, e) (fs, s, e') =
      let s' = subst (λ z. Run (step (scope_of_context z)) ns b c fs) e s in
      (es ++ fs, Run-append (step (scope_of_context w)) ms ns a b c es fs r s', e' ∙ ap (λ z. with_errors z fs) e ∙ with_more w es fs)

  -- a step at types that were pushed for it
  pub Stepped-pushed : (m : Typing S C → TypedEvent S C) (t : Typing S C) (a b : V) (w w₁ w₂ w₃ : ContextState S C) → w₁ ≡ pushed w t → Stepped step (m (typing w₁)) a b w₁ w₂ → w₃ ≡ popped w₂ → Stepped step (m t) a b w w₃
  Stepped-pushed m t a b w w₁ w₂ w₃ e₁ s e₃ =
      let (es, st, e₂) = subst (λ z. Stepped step (m (typing z)) a b z w₂) e₁ s in
      (es, subst (λ z. step (scope_of_context w) (m z) a b es) (typing-pushed w t) st, e₃ ∙ ap popped e₂ ∙ popped-reported w t es)

  -- a step below the types at hand
  pub Stepped-below : (m : TypedEvent S C) (a b : V) (w w' : ContextState S C) → Stepped step m a b w w' → Stepped step m a b (popped w) (popped w')
  Stepped-below m a b w w' (es, s, e) = (es, s, ap popped e)

  -- a step leaves the types as they are
  pub HasTypes-stepped : (m : TypedEvent S C) (a b : V) (w w' : ContextState S C) → HasTypes w → Stepped step m a b w w' → HasTypes w'
  HasTypes-stepped m a b w w' h (es, s, e) = subst (λ z. HasTypes z) (sym e) h

  -- a run below types that were pushed for it
  pub Ran-pushed : (ms : List (TypedEvent S C)) (t : Typing S C) (a b : V) (w w₁ w₂ w₃ : ContextState S C) → w₁ ≡ pushed w t → Ran step ms a b (popped w₁) (popped w₂) → w₃ ≡ popped w₂ → Ran step ms a b w w₃
  Ran-pushed ms t a b w w₁ w₂ w₃ e₁ r e₃ =
      subst (λ z. Ran step ms a b w z) (sym e₃) (subst (λ z. Ran step ms a b z (popped w₂)) (ap popped e₁ ∙ popped-pushed w t) r)

  -- after a run the place is the one from before it
  pub KeepsPlace-ran : (ms : List (TypedEvent S C)) (a b : V) (w w' w'' : ContextState S C) → Ran step ms a b w w' → KeepsPlace w' w'' → KeepsPlace w w''
  KeepsPlace-ran ms a b w w' w'' (es, r, e) k =
      let P : ContextState S C → Type 0 = λ z. KeepsPlace z w'' in
      let q : KeepsPlace (with_errors w es) w'' = subst P e k in
      record { allocator = q.allocator; schema = q.schema; known = q.known; typings = q.typings; stays = q.stays }

-- the steps of two visitors
pub Stepped-pair : {S C V W : Type 0} (newer : StepOf S C V) (other : StepOf S C W) (m : Typing S C → TypedEvent S C) (a b : MultiVisitorCons V W) (w w₁ w₂ : ContextState S C)
    → Stepped newer (m (typing w)) a.0 b.0 w w₁ → Stepped other (m (typing w₁)) a.1 b.1 w₁ w₂ → Stepped (pair_step newer other) (m (typing w)) a b w w₂
Stepped-pair newer other m a b w w₁ w₂ (es, s, e) (fs, t, e') =
    let t' = subst (λ z. other (scope_of_context z) (m (typing z)) a.1 b.1 fs) e t in
    (es ++ fs, (es, fs, s, t', refl), e' ∙ ap (λ z. with_errors z fs) e ∙ with_more w es fs)

-- what holds holds at an error, and at a value
pub OnErr-from : {T E : Type 0} (P : Type 0) (r : Result T E) → P → OnErr r P
OnErr-from P (Ok x) p = tt
OnErr-from P (Err e) p = p

pub OnOk-from : {T E : Type 0} (P : Type 0) (r : Result T E) → P → OnOk r P
OnOk-from P (Ok x) p = p
OnOk-from P (Err e) p = tt

-- the place is kept twice
pub KeepsPlace-trans : {S C : Type 0} (w w' w'' : ContextState S C) → KeepsPlace w w' → KeepsPlace w' w'' → KeepsPlace w w''
KeepsPlace-trans w w' w'' first then = record {
  allocator = then.allocator ∙ first.allocator;
  schema = then.schema ∙ first.schema;
  known = then.known ∙ first.known;
  typings = then.typings ∙ first.typings;
  stays = λ failed. then.stays (first.stays failed);
}
