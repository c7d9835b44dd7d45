-- Names of which none stands again.
use Rattle.std.proofs.Common.{◌≡◌, ℕ, List, [], ◌∷◌, ◌++◌, Bool, true, false, not, ◌&&◌, ◌||◌, refl, ap, sym, ◌∙◌}
use Rattle.std.specs.List.{list_any}
use Rattle.std.specs.Str.{bytes_eq}
use Rattle.std.proofs.lemmas.Bool.{and_parts, true≢false}
use Rattle.language_values.specs.ValuesEqual.{are_distinct}

pub left_none : {X : Type 0} (xs ys : List X) → xs ++ ys ≡ [] → xs ≡ []
left_none [] ys e = refl
left_none (x ∷ xs) ys e = absurd cc

pub right_none : {X : Type 0} (xs ys : List X) → xs ++ ys ≡ [] → ys ≡ []
right_none [] ys e = e
right_none (x ∷ xs) ys e = absurd cc

-- The one list is the other with more between.
pub data Within {X : Type 0} : List X → List X → Type 0 where
  empty : Within [] []
  keep : {x : X} {xs ys : List X} → Within xs ys → Within (x ∷ xs) (x ∷ ys)
  skip : {y : X} {xs ys : List X} → Within xs ys → Within xs (y ∷ ys)

pub within_none : {X : Type 0} (ys : List X) → Within [] ys
within_none [] = empty
within_none (y ∷ ys) = skip (within_none ys)

pub within_append : {X : Type 0} {us vs xs ys : List X} → Within us vs → Within xs ys → Within (us ++ xs) (vs ++ ys)
within_append empty h = h
within_append (keep g) h = keep (within_append g h)
within_append (skip g) h = skip (within_append g h)

no_first : (b c : Bool) → (b || c) ≡ false → b ≡ false
no_first true c e = e
no_first false c e = refl

no_second : (b c : Bool) → (b || c) ≡ false → c ≡ false
no_second true c e = absurd (true≢false e)
no_second false c e = e

any_within : {X : Type 0} (p : X → Bool) {xs ys : List X} → Within xs ys → list_any p ys ≡ false → list_any p xs ≡ false
any_within p empty e = e
any_within p (keep {x = x} {xs = xs} {ys = ys} h) e =
    ap (λ b. b || list_any p xs) (no_first (p x) (list_any p ys) e) ∙ any_within p h (no_second (p x) (list_any p ys) e)
any_within p (skip {y = y} {ys = ys} h) e = any_within p h (no_second (p y) (list_any p ys) e)

from_not : (b : Bool) → not b ≡ true → b ≡ false
from_not true e = sym e
from_not false e = refl

-- some of distinct names are distinct
pub distinct_within : {xs ys : List (List ℕ)} → Within xs ys → are_distinct ys ≡ true → are_distinct xs ≡ true
distinct_within empty e = e
distinct_within (keep {x = x} {xs = xs} {ys = ys} h) e =
    let k = and_parts (not (list_any (bytes_eq x) ys)) (are_distinct ys) e in
    ap (λ b. not b && are_distinct xs) (any_within (bytes_eq x) h (from_not (list_any (bytes_eq x) ys) k.0)) ∙ distinct_within h k.1
distinct_within (skip {y = y} {ys = ys} h) e = distinct_within h (and_parts (not (list_any (bytes_eq y) ys)) (are_distinct ys) e).1
