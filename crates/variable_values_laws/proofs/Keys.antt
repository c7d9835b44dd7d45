-- Keys that are all names of fields.
use Rattle.std.proofs.Common.{◌≡◌, ℕ, List, [], ◌∷◌, ◌++◌, Contains, Bool, true, false, ◌||◌, fold, zero, suc, refl, ap, sym, ◌∙◌, subst, arith, if◌then◌else◌, true≢false}
use Rattle.std.specs.Str.{bytes_eq}
use Rattle.std.proofs.lemmas.Slice.Eq.{bytes_eq-Decides}
use Rattle.indexmap.proofs.CallerLemmas.{Contains-list_any}
use Rattle.schema.specs.Possible.{is_among}
use Rattle.variable_values.specs.Keys.{noted, unknown_keys}
use Rattle.variable_values_laws.proofs.Parts.{contains_first, contains_none, contains_rest}

pub contains_among : (names : List (List ℕ)) (n : List ℕ) → is_among names n ≡ true → Contains names n
contains_among names n e = Contains-list_any (λ (a b : List ℕ). bytes_eq b a) (λ a b h. sym ((bytes_eq-Decides b a).0 h)) names n e

either : (a b : Bool) → b ≡ true → (a || b) ≡ true
either true b e = refl
either false b e = e

pub among_contained : (names : List (List ℕ)) (n : List ℕ) → Contains names n → is_among names n ≡ true
among_contained [] n c = absurd (contains_none n c)
among_contained (y ∷ ys) n (zero, here, is) = ap (λ b. b || is_among ys n) ((bytes_eq-Decides y n).1 is)
among_contained (y ∷ ys) n (suc i, here, is) = either (bytes_eq y n) (is_among ys n) (among_contained ys n (i, omega arith, is))

module _ (fields : List (List ℕ)) where
  -- a key after which none is noted is the name of a field, and none was noted before
  noted_none : (names : List (List ℕ)) (k : List ℕ) (a b : Bool) → is_among fields k ≡ a → is_among names k ≡ b → (if a || b then names else names ++ k ∷ []) ≡ [] → (names ≡ []) × (is_among fields k ≡ true)
  noted_none names k true b p q e = (e, p)
  noted_none names k false true p q e = absurd (true≢false (sym q ∙ ap (λ ns. is_among ns k) e))
  noted_none [] k false false p q e = cc
  noted_none (n ∷ ns) k false false p q e = cc

  all_among : (keys names : List (List ℕ)) → fold (noted fields) names keys ≡ [] → (names ≡ []) × ((k : List ℕ) → Contains keys k → Contains fields k)
  all_among [] names e = (e, λ k c. absurd (contains_none k c))
  all_among (y ∷ ys) names e =
      let later = all_among ys (noted fields names y) e in
      let first = noted_none names y (is_among fields y) (is_among names y) refl refl later.0 in
      (first.0, λ k c. at_first y ys k (contains_among fields y first.1) later.1 c)
    where
      at_first : (y : List ℕ) (ys : List (List ℕ)) (k : List ℕ) → Contains fields y → ((k : List ℕ) → Contains ys k → Contains fields k) → Contains (y ∷ ys) k → Contains fields k
      at_first y ys k first later (zero, here, is) = subst (Contains fields) is first
      at_first y ys k first later (suc i, here, is) = later k (i, omega arith, is)

  pub known_keys : (keys : List (List ℕ)) → unknown_keys fields keys ≡ [] → (k : List ℕ) → Contains keys k → Contains fields k
  known_keys keys e = (all_among keys [] e).1

  pub none_unknown : (keys : List (List ℕ)) → ((k : List ℕ) → Contains keys k → Contains fields k) → unknown_keys fields keys ≡ []
  none_unknown [] h = refl
  none_unknown (y ∷ ys) h =
      ap (λ names. fold (noted fields) names ys) (ap (λ b. if b || is_among [] y then [] else [] ++ y ∷ []) (among_contained fields y (h y (contains_first y ys))))
      ∙ none_unknown ys (λ k c. h k (contains_rest y ys k c))
