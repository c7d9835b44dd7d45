use Rattle.std.proofs.Common.{◌≡◌, List, [], ◌∷◌, ◌++◌, ℕ, map, refl, ap, ◌∙◌, codes, string_bytes}
use Rattle.std.specs.List.{flat_map, join_by}
use Rattle.merge_field_pairs.proofs.texts.joined_texts.Goals as goal

pieces : {X : Type 0} (f : X → List ℕ) (sep : List ℕ) (xs : List X) → flat_map (λ x. sep ++ f x) xs ≡ flat_map (λ t. sep ++ t) (map f xs)
pieces f sep [] = refl
pieces f sep (x ∷ xs) = ap (λ ys. (sep ++ f x) ++ ys) (pieces f sep xs)

join_by-map : {X : Type 0} (f : X → List ℕ) (sep : List ℕ) (xs : List X) → join_by f sep xs ≡ join_by (λ t. t) sep (map f xs)
join_by-map f sep [] = refl
join_by-map f sep (x ∷ xs) = ap (λ ys. f x ++ ys) (pieces f sep xs)

pub returns : goal.returns
returns c = c.in_ok-join.ensures.ok ∙ join_by-map string_bytes (codes " and ") c.args.texts.now
