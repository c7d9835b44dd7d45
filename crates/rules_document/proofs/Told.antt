-- What a loop reports, an error for each item.
use Rattle.std.proofs.Common.{◌≡◌, ℕ, ◌+◌, ◌<◌, get_or, List, [], ◌∷◌, ◌++◌, map, take, length, ap, sym, ◌∙◌}
use Rattle.std.proofs.lemmas.List.{map-append, take_more}
use Rattle.walk.specs.ContextState.{ContextState, with_errors}
use Rattle.walk.proofs.Kept.{with_more}
use Rattle.walk.specs.ErrorValue.{ErrorValue}

-- those of the items that were seen, and then that of the next
pub told_next : {S C T U : Type 0} (f : U → ErrorValue) (g : T → U) (xs : List T) (i : ℕ) (d : T) (w w₁ w₂ : ContextState S C)
    → i < length xs → w₁ ≡ with_errors w (map f (map g (take i xs))) → w₂ ≡ with_errors w₁ (f (g (get_or xs i d)) ∷ [])
    → w₂ ≡ with_errors w (map f (map g (take (i + 1) xs)))
told_next f g xs i d w w₁ w₂ h seen more =
    let x = get_or xs i d in
    let all : map f (map g (take (i + 1) xs)) ≡ map f (map g (take i xs)) ++ f (g x) ∷ [] =
    ap (λ l. map f (map g l)) (take_more xs i d h) ∙ ap (map f) (map-append g (take i xs) (x ∷ [])) ∙ map-append f (map g (take i xs)) (g x ∷ [])
    in
    more ∙ ap (λ z. with_errors z (f (g x) ∷ [])) seen ∙ with_more w (map f (map g (take i xs))) (f (g x) ∷ []) ∙ ap (with_errors w) (sym all)

-- those that were seen, and then those of more items
pub told_more : {S C U : Type 0} (f : U → ErrorValue) (us vs : List U) (w w₁ w₂ : ContextState S C)
    → w₁ ≡ with_errors w (map f us) → w₂ ≡ with_errors w₁ (map f vs) → w₂ ≡ with_errors w (map f (us ++ vs))
told_more f us vs w w₁ w₂ seen more =
    more ∙ ap (λ z. with_errors z (map f vs)) seen ∙ with_more w (map f us) (map f vs) ∙ ap (with_errors w) (sym (map-append f us vs))
