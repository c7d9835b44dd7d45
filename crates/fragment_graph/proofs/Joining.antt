-- How lists of spreads grow.
use Rattle.std.proofs.Common.{◌≡◌, ℕ, ◌+◌, ◌<◌, List, [], ◌∷◌, ◌++◌, length, take, get_or, sym, ap, arith, ◌∙◌, map, append-nil, append_assoc, suc}
use Rattle.std.specs.List.{flat_map}
use Rattle.std.proofs.Math.Seq.{take-suc}
use Rattle.std.proofs.lemmas.Grind.{flat_map-append}
use Rattle.std.proofs.lemmas.List.{map-append}

pub next_take : {X : Type 0} (xs : List X) (i : ℕ) (x : X) → x ≡ get_or xs i x → i < length xs → take (i + 1) xs ≡ take i xs ++ x ∷ []
next_take xs i x is l =
    let one : i + 1 ≡ suc i = omega arith in
    ap (λ k. take k xs) one ∙ take-suc xs i x l ∙ ap (λ y. take i xs ++ y ∷ []) (sym is)

pub flat_map-next : {X Y : Type 0} (f : X → List Y) (xs : List X) (i : ℕ) (x : X) → x ≡ get_or xs i x → i < length xs
    → flat_map f (take (i + 1) xs) ≡ flat_map f (take i xs) ++ f x
flat_map-next f xs i x is l =
    ap (flat_map f) (next_take xs i x is l) ∙ flat_map-append f (take i xs) (x ∷ []) ∙ ap (λ z. flat_map f (take i xs) ++ z) (append-nil (f x))

pub more_spreads : {X Y Z : Type 0} (r : Y → Z) (f : X → List Y) (xs : List X) (i : ℕ) (x : X) (old now new : List Z)
    → x ≡ get_or xs i x → i < length xs
    → now ≡ old ++ map r (flat_map f (take i xs)) → new ≡ now ++ map r (f x) → new ≡ old ++ map r (flat_map f (take (i + 1) xs))
more_spreads r f xs i x old now new is l h e =
    e ∙ ap (λ z. z ++ map r (f x)) h ∙ append_assoc old (map r (flat_map f (take i xs))) (map r (f x))
    ∙ ap (λ z. old ++ z) (sym (map-append r (flat_map f (take i xs)) (f x)) ∙ ap (map r) (sym (flat_map-next f xs i x is l)))
