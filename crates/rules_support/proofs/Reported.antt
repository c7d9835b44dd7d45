-- What a loop reports, item by item.
use Rattle.std.proofs.Common.{◌≡◌, ℕ, ◌+◌, ◌<◌, get_or, List, [], ◌∷◌, ◌++◌, take, length, ap, sym, ◌∙◌}
use Rattle.std.specs.List.{flat_map}
use Rattle.std.proofs.lemmas.List.{append-nil, take_more}
use Rattle.std.proofs.lemmas.Grind.{flat_map-append}
use Rattle.schema.specs.Catalog.{Catalog}
use Rattle.walk.specs.ContextState.{ContextState, with_errors}
use Rattle.walk.specs.ErrorValue.{ErrorValue}
use Rattle.walk.proofs.Kept.{with_more, with_none}

-- nothing was reported
pub reports_none : {S C : Type 0} (w : ContextState S C) → w ≡ with_errors w []
reports_none w = with_none w

-- what was found at the items that were seen, and then at the next
pub reports_next : {S C T : Type 0} (finds : T → List ErrorValue) (xs : List T) (i : ℕ) (x d : T) (w w₁ w₂ : ContextState S C) → i < length xs → x ≡ get_or xs i d
    → w₁ ≡ with_errors w (flat_map finds (take i xs)) → w₂ ≡ with_errors w₁ (finds x) → w₂ ≡ with_errors w (flat_map finds (take (i + 1) xs))
reports_next finds xs i x d w w₁ w₂ h e seen more =
    let before = flat_map finds (take i xs) in
    more
    ∙ ap (λ z. with_errors z (finds x)) seen
    ∙ with_more w before (finds x)
    ∙ ap (λ z. with_errors w (before ++ finds z)) e
    ∙ ap (λ zs. with_errors w (before ++ zs)) (sym (append-nil (finds (get_or xs i d))))
    ∙ ap (λ zs. with_errors w zs) (sym (ap (λ z. flat_map finds z) (take_more xs i d h) ∙ flat_map-append finds (take i xs) (get_or xs i d ∷ [])))

-- the same, where what is found depends on the schema
pub reports_next_in : {S C T : Type 0} (finds : Catalog S C → T → List ErrorValue) (xs : List T) (i : ℕ) (x d : T) (w w₁ w₂ : ContextState S C) → i < length xs → x ≡ get_or xs i d
    → w₁ ≡ with_errors w (flat_map (finds w.schema) (take i xs)) → w₂ ≡ with_errors w₁ (finds w₁.schema x) → w₂ ≡ with_errors w (flat_map (finds w.schema) (take (i + 1) xs))
reports_next_in finds xs i x d w w₁ w₂ h e seen more =
    reports_next (finds w.schema) xs i x d w w₁ w₂ h e seen (more ∙ ap (λ schema. with_errors w₁ (finds schema x)) (ap (λ z. z.schema) seen))
