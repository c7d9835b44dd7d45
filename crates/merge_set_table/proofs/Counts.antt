-- How many selections there are, and what tables take.
use Rattle.std.proofs.Common.{◌≡◌, ◌≤◌, ℕ, ◌+◌, List, [], ◌∷◌, ◌++◌, length, Option, Some, None, refl, ap, ◌∙◌, arith, length-append}
use Rattle.std.specs.Prelude.{option_to_list}
use Rattle.std.specs.List.{sum_by}
use Rattle.std.specs.Option.{option_map_or}
use Rattle.std.proofs.lemmas.List.Sums.{sum_by-cons, sum_by-append}
use Rattle.std.specs.declared.vec.Vec.{Vec}
use Rattle.std.specs.declared.alloc.Global.{Global}
use Rattle.language.specs.declared.tree.Selection.{Selection}
use Rattle.language.specs.declared.tree.Selection.TheVariants as selection
use Rattle.language.specs.declared.tree.Field.{Field}
use Rattle.language.specs.declared.tree.FragmentSpread.{FragmentSpread}
use Rattle.language.specs.declared.tree.InlineFragment.{InlineFragment}
use Rattle.language.specs.SelectionsInside.{selections_inside, all_inside}
use Rattle.fragment_graph.specs.Preorder.{set_inside}
use Rattle.fragment_graph.proofs.PreorderLaws.{inside_set, set_inside-Field, set_inside-Spread, set_inside-Inline}
use Rattle.merge_field_pairs.specs.OwnFields.{Placed}
use Rattle.merge_set_table.specs.declared.table.NumberedSet.{NumberedSet}
use Rattle.merge_set_table.specs.Sizes.{row_size}

module _ {S : Type 0} where
  count_one : (x : Selection S) (set : List (Selection S)) → set_inside x ≡ set → all_inside (x ∷ []) ≡ 1 + all_inside set
  count_one x set e = omega (arith, sum_by-cons selections_inside x [], inside_set x, ap all_inside e)

  -- a field without a set, one with a set, a spread, and an inline fragment
  pub count_leaf : (f : Placed (Field S)) → f.item.selection_set ≡ None → all_inside (selection.Field f ∷ []) ≡ 1
  count_leaf f none = count_one (selection.Field f) [] (set_inside-Field (selection.Field f) f refl ∙ ap (λ (o : Option (Vec (Selection S) Global)). option_map_or (λ w. w.items) o []) none)

  pub count_field : (f : Placed (Field S)) (w : Vec (Selection S) Global) → f.item.selection_set ≡ Some w → all_inside (selection.Field f ∷ []) ≡ 1 + all_inside w.items
  count_field f w some = count_one (selection.Field f) w.items (set_inside-Field (selection.Field f) f refl ∙ ap (λ (o : Option (Vec (Selection S) Global)). option_map_or (λ w. w.items) o []) some)

  pub count_spread : (f : Placed (FragmentSpread S)) → all_inside (selection.FragmentSpread f ∷ []) ≡ 1
  count_spread f = count_one (selection.FragmentSpread f) [] (set_inside-Spread (selection.FragmentSpread f) f refl)

  pub count_inline : (i : Placed (InlineFragment S)) → all_inside (selection.InlineFragment i ∷ []) ≡ 1 + all_inside i.item.selection_set.items
  count_inline i = count_one (selection.InlineFragment i) i.item.selection_set.items (set_inside-Inline (selection.InlineFragment i) i refl)

  pub count_append : (xs ys : List (Selection S)) → all_inside (xs ++ ys) ≡ all_inside xs + all_inside ys
  count_append xs ys = sum_by-append selections_inside xs ys

-- a row more
pub rows_more : (rows : List NumberedSet) (row : NumberedSet) → sum_by row_size (rows ++ row ∷ []) ≡ sum_by row_size rows + row_size row
rows_more rows row = omega (arith, sum_by-append row_size rows (row ∷ []), sum_by-cons row_size row [])

-- a number more, if there is one
pub one_more : (number : Option ℕ) (xs : List ℕ) → length (xs ++ option_to_list number) ≤ length xs + 1
one_more None xs = omega (arith, length-append xs [])
one_more (Some n) xs = omega (arith, length-append xs (n ∷ []))
