-- A type is printed from the outside in: what its modifiers put before it, the name, and what they put after it.
use Rattle.std.proofs.Common.{◌≡◌, ℕ, List, [], ◌∷◌, ◌++◌, codes, fold, ap, refl, sym, ◌∙◌, append_assoc}
use Rattle.std.specs.List.{flat_map}
use Rattle.std.proofs.lemmas.List.{append-nil}
use Rattle.language_types.specs.declared.types.TypeModifier.{TypeModifier}
use Rattle.language_types.specs.declared.types.TypeModifier.TheVariants as m
use Rattle.language_types.specs.Types.{with_modifier, opening, closing}

-- brackets stand before brackets, in whichever order
bracket_last : (ms : List TypeModifier) → flat_map opening ms ++ codes "[" ≡ codes "[" ++ flat_map opening ms
bracket_last [] = refl
bracket_last (m.NonNull ∷ ms) = bracket_last ms
bracket_last (m.List size ∷ ms) = ap (λ z. codes "[" ++ z) (bracket_last ms)

pub printed_by_parts : (name : List ℕ) (ms : List TypeModifier) → flat_map opening ms ++ (name ++ flat_map closing ms) ≡ fold with_modifier name ms
printed_by_parts name [] = append-nil name
printed_by_parts name (m.NonNull ∷ ms) =
    ap (λ z. flat_map opening ms ++ z) (sym (append_assoc name (codes "!") (flat_map closing ms)))
    ∙ printed_by_parts (name ++ codes "!") ms
printed_by_parts name (m.List size ∷ ms) =
    let after = flat_map closing ms in
    ap (λ z. z ++ (name ++ (codes "]" ++ after))) (sym (bracket_last ms))
    ∙ append_assoc (flat_map opening ms) (codes "[") (name ++ (codes "]" ++ after))
    ∙ ap (λ z. flat_map opening ms ++ (codes "[" ++ z)) (sym (append_assoc name (codes "]") after))
    ∙ ap (λ z. flat_map opening ms ++ z) (sym (append_assoc (codes "[") (name ++ codes "]") after))
    ∙ printed_by_parts (codes "[" ++ name ++ codes "]") ms
