-- What loops report, item by item.
use Rattle.std.proofs.Common.{◌≡◌, ℕ, ◌+◌, ◌<◌, get_or, List, [], ◌∷◌, ◌++◌, take, length, Bor, ap, refl, sym, ◌∙◌, append_assoc}
use Rattle.std.specs.List.{flat_map}
use Rattle.std.proofs.lemmas.List.{append-nil, take_more}
use Rattle.std.proofs.lemmas.Grind.{flat_map-append}
use Rattle.language_types.specs.References.{list_copied}

-- what two calls found, one after the other
pub reports_both : {A : Type 0} (r a b r₁ r₂ : List A) → r₁ ≡ r ++ a → r₂ ≡ r₁ ++ b → r₂ ≡ r ++ (a ++ b)
reports_both r a b r₁ r₂ first second = second ∙ ap (λ z. z ++ b) first ∙ append_assoc r a b

-- what was found at the items that were seen, and then at the next
pub reports_next : {T A : Type 0} (finds : T → List A) (xs : List T) (i : ℕ) (x d : T) (r r₁ r₂ : List A) → i < length xs → x ≡ get_or xs i d
    → r₁ ≡ r ++ flat_map finds (take i xs) → r₂ ≡ r₁ ++ finds x → r₂ ≡ r ++ flat_map finds (take (i + 1) xs)
reports_next finds xs i x d r r₁ r₂ h e seen more =
    let before = flat_map finds (take i xs) in
    more
    ∙ ap (λ z. z ++ finds x) seen
    ∙ append_assoc r before (finds x)
    ∙ ap (λ z. r ++ (before ++ finds z)) e
    ∙ ap (λ zs. r ++ (before ++ zs)) (sym (append-nil (finds (get_or xs i d))))
    ∙ ap (λ zs. r ++ zs) (sym (ap (λ z. flat_map finds z) (take_more xs i d h) ∙ flat_map-append finds (take i xs) (get_or xs i d ∷ [])))

-- the same at references
pub flat_map-copied : {T A : Type 0} (f : T → List A) (rs : List (Bor T)) → flat_map (λ r. f r.now) rs ≡ flat_map f (list_copied rs)
flat_map-copied f [] = refl
flat_map-copied f (r ∷ rs) = ap (λ z. f r.now ++ z) (flat_map-copied f rs)

pub reports_next_copied : {T A : Type 0} (finds : T → List A) (xs : List (Bor T)) (i : ℕ) (x d : Bor T) (r r₁ r₂ : List A) → i < length xs → x ≡ get_or xs i d
    → r₁ ≡ r ++ flat_map finds (list_copied (take i xs)) → r₂ ≡ r₁ ++ finds x.now → r₂ ≡ r ++ flat_map finds (list_copied (take (i + 1) xs))
reports_next_copied finds xs i x d r r₁ r₂ h e seen more =
    reports_next (λ z. finds z.now) xs i x d r r₁ r₂ h e (seen ∙ ap (λ z. r ++ z) (sym (flat_map-copied finds (take i xs)))) more
    ∙ ap (λ z. r ++ z) (flat_map-copied finds (take (i + 1) xs))
