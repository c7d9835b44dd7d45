-- What the definitions take whose sets are there.
use Rattle.std.proofs.Common.{◌≡◌, ◌≤◌, ℕ, ◌+◌, zero, suc, List, [], ◌∷◌, ◌++◌, length, map, Option, Some, None, slice_get, slice_set, refl, sym, ap, ◌∙◌, arith}
use Rattle.std.specs.List.{flat_map, sum_by}
use Rattle.std.proofs.lemmas.List.Sums.{sum_by-cons}
use Rattle.language.specs.declared.tree.Definition.{Definition}
use Rattle.language_values.proofs.InsideLaws.{sum_by-map}
use Rattle.fragment_graph.proofs.Lists.{same_some}
use Rattle.merge_sets.specs.declared.node.SetNode.{SetNode}
use Rattle.merge_set_table.specs.declared.table.NumberedSet.{NumberedSet}
use Rattle.merge_set_table.specs.Sizes.{row_size}
use Rattle.merge_graph.specs.Sets.{plain_row, plain_node}
use Rattle.merge_graph.specs.Sizes.{taken, set_size}
use Rattle.merge_graph.specs.Building.{stretch_of, AreStretches}
use Rattle.merge_set_table.proofs.Nesting.{range_kept, range_new}

abbrev Ends : Type 0
Ends = ℕ × ℕ

-- where each place is free nothing stands in an order
pub nothing_joined : (order : List ℕ) (os : List (Option Ends)) → ((p : ℕ) (o : Option Ends) → slice_get os p ≡ Some o → o ≡ None) → flat_map (stretch_of order) os ≡ []
nothing_joined order [] free = refl
nothing_joined order (o ∷ os) free = ap (λ (e : Option Ends). stretch_of order e ++ flat_map (stretch_of order) os) (free 0 o refl) ∙ nothing_joined order os (λ p e h. free (suc p) e h)

stretch_kept : (xs ys : List ℕ) (o : Option Ends) → ((start end : ℕ) → o ≡ Some (start, end) → (start ≤ end) × (end ≤ length xs)) → stretch_of (xs ++ ys) o ≡ stretch_of xs o
stretch_kept xs ys None within = refl
stretch_kept xs ys (Some ends) within = let w = within ends.0 ends.1 refl in range_kept xs ys ends.0 ends.1 w.0 w.1

joined_kept : (xs ys : List ℕ) (os : List (Option Ends)) → AreStretches xs os → flat_map (stretch_of (xs ++ ys)) os ≡ flat_map (stretch_of xs) os
joined_kept xs ys [] within = refl
joined_kept xs ys (o ∷ os) within =
    ap (λ zs. zs ++ flat_map (stretch_of (xs ++ ys)) os) (stretch_kept xs ys o (λ start end e. within 0 start end (ap (λ z. Some z) e)))
    ∙ ap (λ zs. stretch_of xs o ++ zs) (joined_kept xs ys os (λ p start end h. within (suc p) start end h))

-- what is added up of orders: a free place got the end of one that grew
module _ (F : List ℕ → ℕ) (joins : (xs ys : List ℕ) → F (xs ++ ys) ≡ F xs + F ys) where
  pub joined_more : (xs ys : List ℕ) (os : List (Option Ends)) (place : ℕ) → slice_get os place ≡ Some None → AreStretches xs os
      → F (flat_map (stretch_of (xs ++ ys)) (slice_set os place (Some (length xs, length (xs ++ ys))))) ≡ F (flat_map (stretch_of xs) os) + F ys
  joined_more xs ys [] place free within = cc
  joined_more xs ys (o ∷ os) zero free within =
      let none : o ≡ None = same_some o None free in
      let new : List ℕ = stretch_of (xs ++ ys) (Some (length xs, length (xs ++ ys))) in
      omega (
        arith,
        joins new (flat_map (stretch_of (xs ++ ys)) os),
        ap F (range_new xs ys),
        ap F (joined_kept xs ys os (λ p start end h. within (suc p) start end h)),
        ap (λ (e : Option Ends). F (stretch_of xs e ++ flat_map (stretch_of xs) os)) none,
      )
  joined_more xs ys (o ∷ os) (suc place) free within =
      let rest : List (Option Ends) = slice_set os place (Some (length xs, length (xs ++ ys))) in
      let more = joined_more xs ys os place free (λ p start end h. within (suc p) start end h) in
      omega (
        arith,
        more,
        joins (stretch_of (xs ++ ys) o) (flat_map (stretch_of (xs ++ ys)) rest),
        joins (stretch_of xs o) (flat_map (stretch_of xs) os),
        ap F (stretch_kept xs ys o (λ start end e. within 0 start end (ap (λ z. Some z) e))),
      )

module _ {S : Type 0} (share : Definition S → ℕ) where
  pub taken_more : (os : List (Option Ends)) (ds : List (Definition S)) (place : ℕ) (ends : Ends) (d : Definition S)
      → slice_get os place ≡ Some None → slice_get ds place ≡ Some d → taken share (slice_set os place (Some ends)) ds ≡ taken share os ds + share d
  taken_more [] ds place ends d free at = cc
  taken_more (o ∷ os) [] place ends d free at = cc
  taken_more (None ∷ os) (x ∷ ds) zero ends d free at = let same = ap share (same_some x d at) in omega (arith, same)
  taken_more (Some e ∷ os) (x ∷ ds) zero ends d free at = cc
  taken_more (None ∷ os) (x ∷ ds) (suc place) ends d free at = taken_more os ds place ends d free at
  taken_more (Some e ∷ os) (x ∷ ds) (suc place) ends d free at = let more = taken_more os ds place ends d free at in omega (arith, more)

  pub taken_few : (os : List (Option Ends)) (ds : List (Definition S)) → taken share os ds ≤ sum_by share ds
  taken_few [] ds = omega arith
  taken_few (o ∷ os) [] = omega arith
  taken_few (None ∷ os) (d ∷ ds) = let few = taken_few os ds in omega (arith, few, sum_by-cons share d ds)
  taken_few (Some ends ∷ os) (d ∷ ds) = let few = taken_few os ds in omega (arith, few, sum_by-cons share d ds)

-- a search's sets are as large as the table's
pub equally_large : (nodes : List SetNode) (rows : List NumberedSet) → map plain_node nodes ≡ map plain_row rows → sum_by (λ n. set_size (plain_node n)) nodes ≡ sum_by row_size rows
equally_large nodes rows same = sym (sum_by-map set_size plain_node nodes) ∙ ap (sum_by set_size) same ∙ sum_by-map set_size plain_row rows
