-- Where what the members of a list give together is nothing, each of them gives nothing.
use Rattle.std.proofs.Common.{◌≡◌, ℕ, ◌+◌, ◌<◌, ◌≤◌, List, [], length, get_or, take, arith, ap, ◌∙◌}
use Rattle.std.specs.List.{flat_map}
use Rattle.std.proofs.lemmas.List.{nil_from_length}
use Rattle.std.proofs.lemmas.List.Folds.{length-flat_map-take}

pub none_of_member : {X A : Type 0} (f : X → List A) (xs : List X) (i : ℕ) (x : X) → i < length xs → x ≡ get_or xs i x → flat_map f xs ≡ [] → f x ≡ []
none_of_member f xs i x within at none =
    let bound : length (flat_map f (take i xs)) + length (f (get_or xs i x)) ≤ length (flat_map f xs) = length-flat_map-take f xs i x within in
    let zero : length (flat_map f xs) ≡ 0 = ap length none in
    ap f at ∙ nil_from_length (f (get_or xs i x)) (omega arith)
