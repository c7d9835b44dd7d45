-- When what occurrences give is nothing. In specs/, since the laws of the rules cite it.
use Rattle.std.proofs.Common.{◌≡◌, ◌↔◌, ℕ, zero, suc, List, [], ◌∷◌, ◌++◌, refl, ap, sym, ◌∙◌, subst, arith}
use Rattle.std.specs.List.{Contains}
use Rattle.std.proofs.lemmas.List.Elements.{Contains-append_right}
use Rattle.events.specs.Occurrence.{Occurrence, occurrences}
use Rattle.walk.specs.ContextState.{DocumentScope}
use Rattle.walk.specs.Entering.{EachGives, everywhere, given}
use Rattle.walk.specs.ErrorValue.{ErrorValue}
use Rattle.walk.specs.Rule.{SilentIff, always}

left_none : {X : Type 0} (xs ys : List X) → xs ++ ys ≡ [] → xs ≡ []
left_none [] ys e = refl
left_none (x ∷ xs) ys e = cc

right_none : {X : Type 0} (xs ys : List X) → xs ++ ys ≡ [] → ys ≡ []
right_none [] ys e = e
right_none (x ∷ xs) ys e = cc

module _ {O R : Type 0} (gives : O → List R → Type 0) (IsRight : O → Type 0)
    (at : (o : O) (es : List R) → gives o es → (es ≡ []) ↔ IsRight o) where
  right_each : (os : List O) (es : List R) → EachGives gives os es → es ≡ [] → (o : O) → Contains os o → IsRight o
  right_each [] es p e o (k, within, is) = absurd (omega (arith, within))
  right_each (p ∷ os) es (first, rest, g, gs, e') e o (zero, within, is) =
      subst IsRight is ((at p first g).0 (left_none first rest (sym e' ∙ e)))
  right_each (p ∷ os) es (first, rest, g, gs, e') e o (suc k, within, is) =
      right_each os rest gs (right_none first rest (sym e' ∙ e)) o (k, omega (arith, within), is)

  each_right : (os : List O) (es : List R) → EachGives gives os es → ((o : O) → Contains os o → IsRight o) → es ≡ []
  each_right [] es p h = p
  each_right (p ∷ os) es (first, rest, g, gs, e) h =
      e ∙ ap (λ z. z ++ rest) ((at p first g).1 (h p (0, omega arith, refl)))
      ∙ each_right os rest gs (λ o there. h o (Contains-append_right (p ∷ []) os o there))

-- a rule that gives nothing at an occurrence if and only if it is as it should be
pub given_silent : {S C V : Type 0} (gives : DocumentScope S C → Occurrence S C → List ErrorValue → Type 0)
    (IsRight : DocumentScope S C → Occurrence S C → Type 0)
    → ((scope : DocumentScope S C) (o : Occurrence S C) (es : List ErrorValue) → gives scope o es → (es ≡ []) ↔ IsRight scope o)
    → SilentIff {V = V} (always (given gives)) (everywhere IsRight)
given_silent gives IsRight at end scope t doc es p =
    let os = occurrences scope.schema t doc in
    (right_each (gives scope) (IsRight scope) (at scope) os es p, each_right (gives scope) (IsRight scope) (at scope) os es p)
