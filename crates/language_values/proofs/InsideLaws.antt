-- How many values a value holds, before and after one is taken out or put in.
use Rattle.std.proofs.Common.{◌≡◌, ◌+◌, ◌<◌, ℕ, List, [], ◌∷◌, ◌++◌, map, sym, ap, ◌∙◌, refl, subst, arith, Vec}
use Rattle.std.specs.List.{sum_by}
use Rattle.std.proofs.lemmas.List.Sums.{sum_by-cons, sum_by_push}
use Rattle.std.specs.declared.alloc.Global.{Global}
use Rattle.language_types.specs.declared.position.Span.{Span}
use Rattle.language_types.specs.declared.position.Spanning.{Spanning}
use Rattle.language_values.specs.declared.value.InputValue.{InputValue, fold-roll-InputValue, fold_out-InputValue}
use Rattle.language_values.specs.declared.value.InputValue.TheVariants as v
use Rattle.language_values.specs.declared.value.InputValue.TheOpen.{InputValue-F}
use Rattle.language_values.specs.Values.{Entry}
use Rattle.language_values.specs.ValuesInside.{values_inside, inside_step}

pub sum_by-map : {A B : Type 0} (f : B → ℕ) (g : A → B) (xs : List A) → sum_by f (map g xs) ≡ sum_by (λ x. f (g x)) xs
sum_by-map f g [] = refl
sum_by-map f g (x ∷ xs) =
    sum_by-cons f (g x) (map g xs)
    ∙ ap (λ n. f (g x) + n) (sum_by-map f g xs)
    ∙ sym (sum_by-cons (λ y. f (g y)) x xs)

pub inside-List : {S : Type 0} (xs : Vec (Spanning (InputValue S) Span) Global) → values_inside (v.List xs) ≡ 1 + sum_by (λ x. values_inside x.item) xs.items
inside-List {S} xs =
    ap values_inside (sym (v.rolls-List xs))
    ∙ fold-roll-InputValue S ℕ inside_step (InputValue-F.List xs)
    ∙ ap (λ n. 1 + n) (sum_by-map (λ w. w.item) _ xs.items)

pub inside-Object : {S : Type 0} (xs : Vec (Entry (InputValue S)) Global) → values_inside (v.Object xs) ≡ 1 + sum_by (λ e. values_inside e.1.item) xs.items
inside-Object {S} xs =
    ap values_inside (sym (v.rolls-Object xs))
    ∙ fold-roll-InputValue S ℕ inside_step (InputValue-F.Object xs)
    ∙ ap (λ n. 1 + n) (sum_by-map (λ e. e.1.item) _ xs.items)

step_above : {S : Type 0} (x : InputValue-F S ℕ) → 0 < inside_step x
step_above InputValue-F.Null = omega arith
step_above (InputValue-F.Scalar s) = omega arith
step_above (InputValue-F.Enum e) = omega arith
step_above (InputValue-F.Variable n) = omega arith
step_above (InputValue-F.List xs) = omega arith
step_above (InputValue-F.Object xs) = omega arith

pub inside_above : {S : Type 0} (x : InputValue S) → 0 < values_inside x
inside_above {S} x = subst (λ n. 0 < n) (sym (fold_out-InputValue S ℕ inside_step x)) (step_above _)

-- one taken off the end
pub taken_from_list : {S : Type 0} (xs ys : Vec (Spanning (InputValue S) Span) Global) (x : Spanning (InputValue S) Span) → xs.items ≡ ys.items ++ x ∷ [] → values_inside (v.List ys) + values_inside x.item ≡ values_inside (v.List xs)
taken_from_list {S} xs ys x e = omega (arith, inside-List xs, inside-List ys, ap (λ l. sum_by (λ w. values_inside w.item) l) e, sum_by_push (λ w. values_inside w.item) ys.items x)

pub taken_from_object : {S : Type 0} (xs ys : Vec (Entry (InputValue S)) Global) (x : Entry (InputValue S)) → xs.items ≡ ys.items ++ x ∷ [] → values_inside (v.Object ys) + values_inside x.1.item ≡ values_inside (v.Object xs)
taken_from_object {S} xs ys x e = omega (arith, inside-Object xs, inside-Object ys, ap (λ l. sum_by (λ w. values_inside w.1.item) l) e, sum_by_push (λ w. values_inside w.1.item) ys.items x)
