-- How deep selections are nested.
use Rattle.std.proofs.Common.{◌≡◌, ◌≤◌, ℕ, zero, suc, ◌+◌, List, [], ◌∷◌, ◌++◌, Option, Some, None, refl, ap, ◌∙◌, arith}
use Rattle.std.specs.Option.{option_map_or}
use Rattle.std.proofs.lemmas.List.Sums.{sum_by-cons, sum_by-append}
use Rattle.std.specs.declared.vec.Vec.{Vec}
use Rattle.std.specs.declared.alloc.Global.{Global}
use Rattle.language.specs.declared.tree.Selection.{Selection, out-Selection, fold_out-Selection, map-Selection}
use Rattle.language.specs.declared.tree.Selection.TheVariants as selection
use Rattle.language.specs.declared.tree.Selection.TheOpen as open_tree
use Rattle.language.specs.declared.tree.Field.{Field, fold_out-Field, out-Field, fold-Field, map-Field}
use Rattle.language.specs.declared.tree.FragmentSpread.{FragmentSpread}
use Rattle.language.specs.declared.tree.InlineFragment.{InlineFragment, fold_out-InlineFragment, out-InlineFragment, fold-InlineFragment}
use Rattle.language.specs.SelectionsInside.{selections_inside, all_inside}
use Rattle.language_values.proofs.InsideLaws.{sum_by-map}
use Rattle.fragment_graph.specs.Preorder.{set_in, set_inside}
use Rattle.fragment_graph.proofs.PreorderLaws.{inside_set, set_inside-Field, set_inside-Inline}
use Rattle.merge_field_pairs.specs.OwnFields.{Placed}
use Rattle.merge_set_table.specs.Depths.{selection_depths, field_depths, inline_depths, depths_inside, depths}

module _ {S : Type 0} where
  by_layer : (d : ℕ) (x : open_tree.Selection-F S (Selection S) (Field S) (InlineFragment S))
      → selection_depths (map-Selection S (Selection S) (Field S) (InlineFragment S) (ℕ → ℕ) (ℕ → ℕ) (ℕ → ℕ) depths_inside (fold-Field S (ℕ → ℕ) (ℕ → ℕ) (ℕ → ℕ) selection_depths field_depths inline_depths) (fold-InlineFragment S (ℕ → ℕ) (ℕ → ℕ) (ℕ → ℕ) selection_depths field_depths inline_depths) x) d ≡ d + depths (set_in x) (suc d)
  by_layer d (open_tree.Field f) =
      ap (λ (g : ℕ → ℕ). g d) (fold_out-Field S (ℕ → ℕ) (ℕ → ℕ) (ℕ → ℕ) selection_depths field_depths inline_depths f.item)
      ∙ elim (out-Field S f.item).selection_set as (λ o. field_depths (map-Field S (Selection S) (Field S) (InlineFragment S) (ℕ → ℕ) (ℕ → ℕ) (ℕ → ℕ) depths_inside (fold-Field S (ℕ → ℕ) (ℕ → ℕ) (ℕ → ℕ) selection_depths field_depths inline_depths) (fold-InlineFragment S (ℕ → ℕ) (ℕ → ℕ) (ℕ → ℕ) selection_depths field_depths inline_depths) (record (out-Field S f.item) { selection_set = o })) d ≡ d + depths (option_map_or (λ w. w.items) o []) (suc d)) [ None ↦ refl | Some w ↦ ap (λ n. d + n) (sum_by-map (λ (g : ℕ → ℕ). g (suc d)) depths_inside w.items) ]
  by_layer d (open_tree.FragmentSpread s) = omega arith
  by_layer d (open_tree.InlineFragment i) =
      ap (λ (g : ℕ → ℕ). g d) (fold_out-InlineFragment S (ℕ → ℕ) (ℕ → ℕ) (ℕ → ℕ) selection_depths field_depths inline_depths i.item)
      ∙ ap (λ n. d + n) (sum_by-map (λ (g : ℕ → ℕ). g (suc d)) depths_inside (out-InlineFragment S i.item).selection_set.items)

  -- a selection, and those of its set
  depths_set : (x : Selection S) (d : ℕ) → depths_inside x d ≡ d + depths (set_inside x) (suc d)
  depths_set x d = ap (λ (g : ℕ → ℕ). g d) (fold_out-Selection S (ℕ → ℕ) (ℕ → ℕ) (ℕ → ℕ) selection_depths field_depths inline_depths x) ∙ by_layer d (out-Selection S x)

  deeper_below : (n : ℕ) (set : List (Selection S)) (d : ℕ) → all_inside set ≤ n → depths set (suc d) ≡ depths set d + all_inside set
  deeper_below n [] d l = omega arith
  deeper_below zero (x ∷ xs) d l = absurd (omega (arith, l, sum_by-cons selections_inside x xs, inside_set x))
  deeper_below (suc n) (x ∷ xs) d l =
      let first = sum_by-cons selections_inside x xs in
      let inside = inside_set x in
      omega (
        arith,
        first,
        inside,
        sum_by-cons (λ y. depths_inside y (suc d)) x xs,
        sum_by-cons (λ y. depths_inside y d) x xs,
        depths_set x (suc d),
        depths_set x d,
        deeper_below n (set_inside x) (suc d) (omega (arith, l, first, inside)),
        deeper_below n xs d (omega (arith, l, first, inside)),
      )

  -- one level deeper, each selection counts one more
  pub deeper : (set : List (Selection S)) (d : ℕ) → depths set (suc d) ≡ depths set d + all_inside set
  deeper set d = deeper_below (all_inside set) set d (omega arith)

  depths_one : (x : Selection S) (set : List (Selection S)) → set_inside x ≡ set → depths (x ∷ []) 0 ≡ depths set 1
  depths_one x set e = omega (arith, sum_by-cons (λ y. depths_inside y 0) x [], depths_set x 0, ap (λ s. depths s 1) e)

  -- a field with a set, and an inline fragment
  pub depths_field : (f : Placed (Field S)) (w : Vec (Selection S) Global) → f.item.selection_set ≡ Some w → depths (selection.Field f ∷ []) 0 ≡ depths w.items 1
  depths_field f w some = depths_one (selection.Field f) w.items (set_inside-Field (selection.Field f) f refl ∙ ap (λ (o : Option (Vec (Selection S) Global)). option_map_or (λ w. w.items) o []) some)

  pub depths_inline : (i : Placed (InlineFragment S)) → depths (selection.InlineFragment i ∷ []) 0 ≡ depths i.item.selection_set.items 1
  depths_inline i = depths_one (selection.InlineFragment i) i.item.selection_set.items (set_inside-Inline (selection.InlineFragment i) i refl)

  pub depths_append : (xs ys : List (Selection S)) (d : ℕ) → depths (xs ++ ys) d ≡ depths xs d + depths ys d
  depths_append xs ys d = sum_by-append (λ x. depths_inside x d) xs ys
