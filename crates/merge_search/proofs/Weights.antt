-- How much stands in sets and below them.
use Rattle.std.proofs.Common.{◌≡◌, ◌⊎◌, ◌+◌, ◌<◌, ◌≤◌, ◌∙◌, ◌∷◌, [], ℕ, zero, suc, List, Option, None, Some, ap, arith, inl, inr, length, refl, sym}
use Rattle.std.specs.Prelude.{sum_by}
use Rattle.std.specs.List.{All}
use Rattle.std.specs.Option.{option_map_or}
use Rattle.std.proofs.lemmas.Bool.{cases_order}
use Rattle.std.proofs.lemmas.List.Elements.{All-head, All-tail, All-weaker}
use Rattle.std.proofs.lemmas.List.Sums.{sum_by-cons}
use Rattle.std.proofs.lemmas.Option.{slice_get_past}
use Rattle.merge_sets.specs.declared.node.Entry.{Entry}
use Rattle.merge_sets.specs.declared.node.SetNode.{SetNode}
use Rattle.merge_sets.specs.Graph.{Falling, height, own_at}
use Rattle.merge_search.specs.Weight.{weigh, weight, field_weight, fields_weight}
use Rattle.merge_sets.specs.World.{World, own_of}

pub sum_by_same : {X : Type 0} (f g : X → ℕ) (xs : List X) → All (λ x. f x ≡ g x) xs → sum_by f xs ≡ sum_by g xs
sum_by_same f g [] all = refl
sum_by_same f g (x ∷ xs) all =
    sum_by-cons f x xs ∙ ap (λ n. n + sum_by f xs) (All-head (λ x. f x ≡ g x) x xs all)
    ∙ ap (λ n. g x + n) (sum_by_same f g xs (All-tail (λ x. f x ≡ g x) x xs all)) ∙ sym (sum_by-cons g x xs)

pub sum_by_below : {X : Type 0} (f g : X → ℕ) (xs : List X) → All (λ x. f x ≤ g x) xs → sum_by f xs ≤ sum_by g xs
sum_by_below f g [] all = omega arith
sum_by_below f g (x ∷ xs) all =
    omega (arith, sum_by-cons f x xs, sum_by-cons g x xs, All-head (λ x. f x ≤ g x) x xs all, sum_by_below f g xs (All-tail (λ x. f x ≤ g x) x xs all))

module _ (sets : List SetNode) (fragments : List ℕ) (falling : Falling sets fragments) where
  -- what stands below a field, if its set is counted to two depths that reach
  same_below : (n m t : ℕ) → ((u : ℕ) → u < t → weigh sets n u ≡ weigh sets m u) → (o : Option ℕ) → option_map_or (λ s. suc s) o 0 ≤ t
      → 1 + option_map_or (weigh sets n) o 0 ≡ 1 + option_map_or (weigh sets m) o 0
  same_below n m t same None low = refl
  same_below n m t same (Some u) low = ap (λ (k : ℕ). 1 + k) (same u (omega (arith, low)))

  pub steady : (n m t : ℕ) → t < n → t < m → weigh sets n t ≡ weigh sets m t
  steady zero m t ln lm = absurd (omega (arith, ln))
  steady (suc n) zero t ln lm = absurd (omega (arith, lm))
  steady (suc n) (suc m) t ln lm =
      sum_by_same (λ a. 1 + option_map_or (weigh sets n) a.below 0) (λ a. 1 + option_map_or (weigh sets m) a.below 0) (own_at sets t)
      (All-weaker (λ (a : Entry). height a ≤ t) (λ (a : Entry). 1 + option_map_or (weigh sets n) a.below 0 ≡ 1 + option_map_or (weigh sets m) a.below 0)
      (λ a low. same_below n m t (λ u l. steady n m u (omega (arith, l, ln)) (omega (arith, l, lm))) a.below low) (own_at sets t) (falling t).0)

module _ (w : World) (falling : Falling w.sets w.fragments) where
  own_weight_of : (s : ℕ) (o : Option ℕ) → option_map_or (λ t. suc t) o 0 ≤ s
      → 1 + option_map_or (weigh w.sets s) o 0 ≡ 1 + option_map_or (weight w) o 0
  own_weight_of s None low = refl
  own_weight_of s (Some t) low = ap (λ (k : ℕ). 1 + k) (steady w.sets w.fragments falling s (suc t) t (omega (arith, low)) (omega arith))

  -- a set weighs what its own fields do
  pub own_weight : (s : ℕ) → weight w s ≡ fields_weight w (own_of w s)
  own_weight s =
      sum_by_same (λ a. 1 + option_map_or (weigh w.sets s) a.below 0) (field_weight w) (own_of w s)
      (All-weaker (λ (a : Entry). height a ≤ s) (λ (a : Entry). 1 + option_map_or (weigh w.sets s) a.below 0 ≡ field_weight w a)
      (λ a low. own_weight_of s a.below low) (own_of w s) (falling s).0)

-- a set that isn't there weighs nothing
pub nothing_weighs : (w : World) (s : ℕ) → length w.sets ≤ s → weight w s ≡ 0
nothing_weighs w s past =
    ap (λ o. sum_by (λ a. 1 + option_map_or (weigh w.sets s) a.below 0) (option_map_or (λ n. n.own.items) o [])) (slice_get_past w.sets s past)

-- each field weighs something
pub length_weight : (w : World) (fields : List Entry) → length fields ≤ fields_weight w fields
length_weight w [] = omega arith
length_weight w (x ∷ xs) = omega (arith, length_weight w xs, sum_by-cons (field_weight w) x xs)

pub lt_or_le : (s n : ℕ) → (s < n) ⊎ (n ≤ s)
lt_or_le s n = elim (cases_order s n) [ inl eq ↦ inr (omega (arith, eq)) | inr o ↦ elim o [ inl l ↦ inl l | inr g ↦ inr (omega (arith, g)) ] ]
