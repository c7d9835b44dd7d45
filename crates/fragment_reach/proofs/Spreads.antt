-- The spreads inside operations, as they are kept.
use Rattle.std.proofs.Common.{◌≡◌, ℕ, ◌+◌, ◌<◌, List, [], ◌∷◌, ◌++◌, length, take, get_or, map, refl, ap, sym, ◌∙◌}
use Rattle.std.specs.List.{flat_map}
use Rattle.std.proofs.lemmas.List.{map-append}
use Rattle.fragment_graph.proofs.Joining.{next_take}
use Rattle.jagged_lists.specs.Lists.{joined}

pub next_lists : {X Y : Type 0} (f : X → Y) (xs : List X) (i : ℕ) (x : X) → x ≡ get_or xs i x → i < length xs → map f (take (i + 1) xs) ≡ map f (take i xs) ++ f x ∷ []
next_lists f xs i x is l = ap (map f) (next_take xs i x is l) ∙ map-append f (take i xs) (x ∷ [])

-- the lists joined
pub joined_lists : {X Y Z : Type 0} (r : Y → Z) (f : X → List Y) (xs : List X) → joined (map (λ x. map r (f x)) xs) ≡ map r (flat_map f xs)
joined_lists r f [] = refl
joined_lists r f (x ∷ xs) = ap (λ z. map r (f x) ++ z) (joined_lists r f xs) ∙ sym (map-append r (f x) (flat_map f xs))
