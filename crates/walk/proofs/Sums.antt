-- Rules that report nothing.
use Rattle.std.proofs.Common.{◌≡◌, List, [], ◌∷◌, ◌++◌, refl, ap, sym, ◌∙◌, subst}
use Rattle.language.specs.declared.tree.Definition.{Definition}
use Rattle.walk.specs.ErrorValue.{ErrorValue}
use Rattle.walk.specs.ContextState.{ContextState, DocumentScope, scope_of, typing}
use Rattle.walk.specs.Rule.{Allowance, AppendsAllowed, Condition, Settled, SilentIff, settled_by}
use Rattle.walk.specs.Entering.{given, EachGives}
use Rattle.events.specs.Occurrence.{Occurrence, occurrences}

left_none : {X : Type 0} (xs ys : List X) → xs ++ ys ≡ [] → xs ≡ []
left_none [] ys e = refl
left_none (x ∷ xs) ys e = cc

each_settled : {O : Type 0} (gives : O → List ErrorValue → Type 0) → ((o : O) (es : List ErrorValue) → gives o [] → gives o es → es ≡ []) → (os : List O) (es : List ErrorValue) → EachGives gives os [] → EachGives gives os es → es ≡ []
each_settled gives h [] es none p = p
each_settled gives h (o ∷ os) es (f, r, q, qs, e) (fs, rs, p, ps, e') =
    let no_first : f ≡ [] = left_none f r (sym e) in
    let no_rest : r ≡ [] = ap (λ z. z ++ r) (sym no_first) ∙ sym e in
    e' ∙ ap (λ z. z ++ rs) (h o fs (subst (gives o) no_first q) p) ∙ each_settled gives h os rs (subst (EachGives gives os) no_rest qs) ps

module _ {S C : Type 0} where
  -- what occurrences give, where no occurrence that may give nothing may give something
  pub given_settled : (gives : DocumentScope S C → Occurrence S C → List ErrorValue → Type 0) → ((scope : DocumentScope S C) (o : Occurrence S C) (es : List ErrorValue) → gives scope o [] → gives scope o es → es ≡ []) → Settled (given gives)
  given_settled gives h scope t doc es none p = each_settled (gives scope) (h scope) (occurrences scope.schema t doc) es none p

-- what was appended is nothing if and only if nothing is found
pub settled_where : {S C V : Type 0} (allows : V → Allowance S C) (condition : Condition S C) → SilentIff allows condition
    → (end : V) (doc : List (Definition S)) (old new : ContextState S C) → AppendsAllowed (allows end) doc old new
    → AppendsAllowed (settled_by condition (allows end)) doc old new
settled_where allows condition h end doc old new (es, p, e) = (es, (p, h end (scope_of old.schema doc) (typing old) doc es p), e)
