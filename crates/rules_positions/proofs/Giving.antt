-- Lists that are given and appended piece by piece.
use Rattle.std.proofs.Common.{◌≡◌, ℕ, ◌+◌, ◌<◌, List, [], ◌∷◌, ◌++◌, length, map, refl, ap, sym, ◌∙◌, subst, append_assoc, get_or, take, false, true}
use Rattle.std.proofs.lemmas.List.{append-nil, map-append, take_more}
use Rattle.meta.specs.declared.kinds.MetaTypeOf.{MetaTypeOf}
use Rattle.walk.specs.ContextState.{ContextState, with_errors}
use Rattle.walk.specs.Entering.{EachGives}
use Rattle.walk.specs.ErrorValue.{ErrorValue}
use Rattle.walk.specs.Rule.{Appended}
use Rattle.walk.proofs.Kept.{with_more, with_none}

pub false_true : false ≡ true → ⊥
false_true e = cc

each_more : {O R : Type 0} (gives : O → List R → Type 0) (os : List O) (o : O) (es fs : List R) → EachGives gives os es → gives o fs → EachGives gives (os ++ o ∷ []) (es ++ fs)
each_more gives [] o es fs p q = (fs, [], q, refl, ap (λ z. z ++ fs) p ∙ sym (append-nil fs))
each_more gives (x ∷ os) o es fs (first, rest, p, ps, e) q =
    (first, rest ++ fs, p, each_more gives os o rest fs ps q, ap (λ z. z ++ fs) e ∙ append_assoc first rest fs)

module _ {S C O : Type 0} (gives : List (MetaTypeOf S C) → O → List ErrorValue → Type 0) (w : ContextState S C) where
  -- what some give was appended, and then what one more gives
  pub appended_next : (os : List O) (o : O) (w₁ w₂ : ContextState S C) → Appended (EachGives (gives w.schema.types) os) w w₁ → Appended (gives w₁.schema.types o) w₁ w₂ → Appended (EachGives (gives w.schema.types) (os ++ o ∷ [])) w w₂
  appended_next os o w₁ w₂ (es, p, e) (fs, q, e') =
      let q' : gives w.schema.types o fs = subst (λ (z : ContextState S C). gives z.schema.types o fs) e q in (
        es ++ fs,
        each_more (gives w.schema.types) os o es fs p q',
        e' ∙ ap (λ z. with_errors z fs) e ∙ with_more w es fs,
      )

  -- the same of the next of a list
  pub appended_at : (os : List O) (i : ℕ) (o d : O) (w₁ w₂ : ContextState S C) → o ≡ get_or os i d → i < length os → Appended (EachGives (gives w.schema.types) (take i os)) w w₁ → Appended (gives w₁.schema.types o) w₁ w₂
      → Appended (EachGives (gives w.schema.types) (take (i + 1) os)) w w₂
  appended_at os i o d w₁ w₂ is l p q =
      let next : take (i + 1) os ≡ take i os ++ o ∷ [] = take_more os i d l ∙ ap (λ z. take i os ++ z ∷ []) (sym is) in
      subst (λ zs. Appended (EachGives (gives w.schema.types) zs) w w₂) (sym next) (appended_next (take i os) o w₁ w₂ p q)

  -- and of the next of a list from which they are made
  pub appended_mapped : {X : Type 0} (f : X → O) (xs : List X) (i : ℕ) (x d : X) (w₁ w₂ : ContextState S C) → x ≡ get_or xs i d → i < length xs → Appended (EachGives (gives w.schema.types) (map f (take i xs))) w w₁
      → Appended (gives w₁.schema.types (f x)) w₁ w₂ → Appended (EachGives (gives w.schema.types) (map f (take (i + 1) xs))) w w₂
  appended_mapped f xs i x d w₁ w₂ is l p q =
      let next : map f (take (i + 1) xs) ≡ map f (take i xs) ++ f x ∷ [] =
      ap (map f) (take_more xs i d l) ∙ map-append f (take i xs) (get_or xs i d ∷ []) ∙ ap (λ z. map f (take i xs) ++ f z ∷ []) (sym is)
      in
      subst (λ zs. Appended (EachGives (gives w.schema.types) zs) w w₂) (sym next) (appended_next (map f (take i xs)) (f x) w₁ w₂ p q)

  pub appended_none : Appended (EachGives (gives w.schema.types) []) w w
  appended_none = ([], refl, with_none w)
