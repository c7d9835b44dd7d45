-- Fields of which no two have one response name.
use Rattle.std.proofs.Common.{◌≡◌, ◌==◌, ◌+◌, ◌*◌, ◌≤◌, ◌∙◌, ◌∷◌, [], ℕ, suc, List, Bool, true, false, cond, not, ap, arith, get_or, refl, subst, sym}
use Rattle.std.specs.Prelude.{sum_by}
use Rattle.std.specs.List.{All, filter}
use Rattle.std.proofs.lemmas.List.Sums.{sum_by-cons}
use Rattle.std.proofs.lemmas.Nat.{mul-le}
use Rattle.std.proofs.lemmas.Option.{slice_get-get_or}
use Rattle.merge_sets.specs.declared.node.Entry.{Entry}
use Rattle.merge_sets.specs.Graph.{Falling}
use Rattle.merge_sets.specs.Names.{HaveOwnNames, named}
use Rattle.merge_search.specs.Spending.{sets_cost}
use Rattle.merge_search.specs.Weight.{field_weight, fields_weight, weight}
use Rattle.merge_sets.specs.World.{World, own_of}
use Rattle.merge_search.proofs.Weights.{own_weight, sum_by_below, sum_by_same}

own_names_tail : (x : Entry) (xs : List Entry) → HaveOwnNames (x ∷ xs) → HaveOwnNames xs
own_names_tail x xs once k l a b lt p q same = once (suc k) (suc l) a b (omega (arith, lt)) p q same

own_names_head : (x : Entry) (xs : List Entry) → HaveOwnNames (x ∷ xs) → All (λ (f : Entry). f.response ≡ x.response → ⊥) xs
own_names_head x xs once k d l same = once 0 (suc k) x (get_or xs k d) (omega arith) refl (slice_get-get_or xs k d l) (sym same)

-- the fields of all other names
abbrev unnamed : ℕ → List Entry → List Entry
unnamed n xs = filter (λ a. not (a.response == n)) xs

module _ (f : Entry → ℕ) where
  parted : (b : Bool) (x : Entry) (ys zs : List Entry) → sum_by f (cond b (x ∷ ys) ys) + sum_by f (cond (not b) (x ∷ zs) zs) ≡ f x + (sum_by f ys + sum_by f zs)
  parted true x ys zs = omega (arith, sum_by-cons f x ys)
  parted false x ys zs = omega (arith, sum_by-cons f x zs)

  parts : (n : ℕ) (xs : List Entry) → sum_by f (named n xs) + sum_by f (unnamed n xs) ≡ sum_by f xs
  parts n [] = omega arith
  parts n (x ∷ xs) = omega (arith, parted (x.response == n) x (named n xs) (unnamed n xs), parts n xs, sum_by-cons f x xs)

  pub times : (m : ℕ) (xs : List Entry) → sum_by (λ x. f x * m) xs ≡ sum_by f xs * m
  times m [] = omega arith
  times m (x ∷ xs) = sum_by-cons (λ x. f x * m) x xs ∙ ap (λ (n : ℕ). f x * m + n) (times m xs) ∙ spread (f x) (sum_by f xs) m ∙ ap (λ (n : ℕ). n * m) (sym (sum_by-cons f x xs))
    where
      spread : (x y m : ℕ) → x * m + y * m ≡ (x + y) * m
      spread x y m = omega arith

eq_from : (m n : ℕ) → (m == n) ≡ true → m ≡ n
eq_from m n h = grind arith

eq_not : (m n : ℕ) → (m ≡ n → ⊥) → (m == n) ≡ false
eq_not m n h = grind arith

one_named : (m n : ℕ) (x : Entry) (ys zs : List Entry) → (m ≡ n → ⊥) → named m ys ≡ named m zs → (b : Bool) → (x.response == n) ≡ b
    → named m (cond (not b) (x ∷ ys) ys) ≡ cond (x.response == m) (x ∷ named m zs) (named m zs)
one_named m n x ys zs apart same false is = ap (λ us. cond (x.response == m) (x ∷ us) us) same
one_named m n x ys zs apart same true is =
    let other : (x.response == m) ≡ false = eq_not x.response m (λ h. apart (sym h ∙ eq_from x.response n is)) in
    same ∙ sym (ap (λ b. cond b (x ∷ named m zs) (named m zs)) other)

still_named : (m n : ℕ) → (m ≡ n → ⊥) → (xs : List Entry) → named m (unnamed n xs) ≡ named m xs
still_named m n apart [] = refl
still_named m n apart (x ∷ xs) = one_named m n x (unnamed n xs) xs apart (still_named m n apart xs) (x.response == n) refl

-- the fields of each name, one after the other, are no more than all
names_sum : (w : World) (firsts xs : List Entry) → HaveOwnNames firsts → sum_by (λ f. fields_weight w (named f.response xs)) firsts ≤ fields_weight w xs
names_sum w [] xs once = omega arith
names_sum w (f ∷ fs) xs once =
    let n = f.response in
    let rest = unnamed n xs in
    let same : sum_by (λ g. fields_weight w (named g.response xs)) fs ≡ sum_by (λ g. fields_weight w (named g.response rest)) fs =
    sum_by_same (λ (g : Entry). fields_weight w (named g.response xs)) (λ (g : Entry). fields_weight w (named g.response rest)) fs
    (λ k d l. ap (fields_weight w) (sym (still_named (get_or fs k d).response n (own_names_head f fs once k d l) xs))) in
    omega (arith, sum_by-cons (λ (g : Entry). fields_weight w (named g.response xs)) f fs, same, names_sum w fs rest (own_names_tail f fs once), parts (field_weight w) n xs)

named_weight : (w : World) (n : ℕ) (xs : List Entry) → fields_weight w (named n xs) ≤ fields_weight w xs
named_weight w n xs = omega (arith, parts (field_weight w) n xs)

-- two lists, name by name, cost no more than the product of their weights
pub lists_within : (w : World) (left right firsts : List Entry) → HaveOwnNames firsts
    → sum_by (λ f. fields_weight w (named f.response left) * fields_weight w (named f.response right)) firsts ≤ fields_weight w left * fields_weight w right
lists_within w left right firsts once =
    let f = λ (g : Entry). fields_weight w (named g.response left) in
    let m = fields_weight w right in
    let wide : sum_by (λ (g : Entry). f g * fields_weight w (named g.response right)) firsts ≤ sum_by (λ g. f g * m) firsts =
    sum_by_below (λ (g : Entry). f g * fields_weight w (named g.response right)) (λ (g : Entry). f g * m) firsts
    (λ k d l. let g = get_or firsts k d in mul-le (f g) (fields_weight w (named g.response right)) (f g) m (omega arith) (named_weight w g.response right)) in
    let most : sum_by f firsts * m ≤ fields_weight w left * m = mul-le (sum_by f firsts) m (fields_weight w left) m (names_sum w firsts left once) (omega arith) in
    omega (arith, wide, times f m firsts, most)

-- so do two sets
pub sets_within : (w : World) → Falling w.sets w.fragments → (i j : ℕ) (firsts : List Entry) → HaveOwnNames firsts → sets_cost w i j firsts ≤ weight w i * weight w j
sets_within w falling i j firsts once =
    subst (λ (n : ℕ). sets_cost w i j firsts ≤ n * weight w j) (sym (own_weight w falling i))
    (subst (λ (n : ℕ). sets_cost w i j firsts ≤ fields_weight w (own_of w i) * n) (sym (own_weight w falling j)) (lists_within w (own_of w i) (own_of w j) firsts once))
