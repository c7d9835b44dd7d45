-- Pieces with a comma between each two, one more at a time.
use Rattle.std.proofs.Common.{◌≡◌, ℕ, ◌+◌, ◌<◌, zero, suc, add-one, Bool, true, false, List, [], ◌∷◌, ◌++◌, map, take, length, get_or, codes, refl, arith, ap, sym, ◌∙◌}
use Rattle.std.proofs.lemmas.List.{append-nil, flat_map_more, map-append, take_more}
use Rattle.language_values.specs.ValuesPrinted.{comma_separated, separator_before}

abbrev pub is_zero : ℕ → Bool
is_zero zero = true
is_zero (suc n) = false

pub is_zero-add_one : (n : ℕ) → false ≡ is_zero (n + 1)
is_zero-add_one n = rw add-one refl

-- one more piece after some others
comma_separated-push : (p : List ℕ) (ps : List (List ℕ)) (q : List ℕ) → comma_separated ((p ∷ ps) ++ q ∷ []) ≡ comma_separated (p ∷ ps) ++ (codes ", " ++ q)
comma_separated-push p ps q = sym (flat_map_more (λ r. codes ", " ++ r) p ps q)

before : {A : Type 0} (h : A → List ℕ) (xs : List A) (i : ℕ) (x : A) → i < length xs → comma_separated (map h (take i xs) ++ h x ∷ []) ≡ comma_separated (map h (take i xs)) ++ (separator_before (is_zero i) ++ h x)
before h [] i x here = absurd (omega arith)
before h (y ∷ ys) zero x here = append-nil (h x)
before h (y ∷ ys) (suc i) x here = comma_separated-push (h y) (map h (take i ys)) (h x)

pub comma_separated-more : {A : Type 0} (h : A → List ℕ) (xs : List A) (i : ℕ) (d : A) → i < length xs → comma_separated (map h (take (i + 1) xs)) ≡ comma_separated (map h (take i xs)) ++ (separator_before (is_zero i) ++ h (get_or xs i d))
comma_separated-more h xs i d here =
    ap (λ ys. comma_separated (map h ys)) (take_more xs i d here)
    ∙ ap comma_separated (map-append h (take i xs) (get_or xs i d ∷ []))
    ∙ before h xs i (get_or xs i d) here
