-- How many selections a selection holds, before and after one is taken out or put in.
use Rattle.std.proofs.Common.{◌≡◌, ◌+◌, ◌<◌, ℕ, List, [], ◌∷◌, sym, ap, ◌∙◌, refl, arith, Vec, length, slice_index_or, slice_set}
use Rattle.std.specs.Prelude.{Option, Some, None, IfSome}
use Rattle.std.specs.Option.{option_map_or}
use Rattle.std.proofs.lemmas.List.Sums.{sum_by-cons}
use Rattle.std.specs.declared.alloc.Global.{Global}
use Rattle.language_types.specs.declared.position.Span.{Span}
use Rattle.language_types.specs.declared.position.Spanning.{Spanning}
use Rattle.language.specs.declared.tree.Field.{Field, fold_out-Field, out-Field, fold-Field, map-Field}
use Rattle.language.specs.declared.tree.InlineFragment.{InlineFragment, fold_out-InlineFragment, out-InlineFragment, fold-InlineFragment}
use Rattle.language.specs.declared.tree.Selection.{Selection, fold-roll-Selection}
use Rattle.language.specs.declared.tree.Selection.TheVariants as v
use Rattle.language.specs.declared.tree.Selection.TheOpen as open_tree
use Rattle.language.specs.SelectionsInside.{selection_step, field_step, inline_step, selections_inside, all_inside}
use Rattle.language_values.proofs.InsideLaws.{sum_by-map}

module _ {S : Type 0} where
  pub inside_roll_field : (s : Selection S) (f : Spanning (Field S) Span) → s ≡ v.Field f → selections_inside s ≡ 1 + option_map_or (λ w. all_inside w.items) (out-Field S f.item).selection_set 0
  inside_roll_field s f p =
      ap selections_inside (p ∙ sym (v.rolls-Field f))
      ∙ fold-roll-Selection S ℕ ℕ ℕ selection_step field_step inline_step (open_tree.Field f)
      ∙ fold_out-Field S ℕ ℕ ℕ selection_step field_step inline_step f.item
      ∙ elim (out-Field S f.item).selection_set as (λ o. field_step (map-Field S (Selection S) (Field S) (InlineFragment S) ℕ ℕ ℕ selections_inside (fold-Field S ℕ ℕ ℕ selection_step field_step inline_step) (fold-InlineFragment S ℕ ℕ ℕ selection_step field_step inline_step) (record (out-Field S f.item) { selection_set = o })) ≡ 1 + option_map_or (λ w. all_inside w.items) o 0) [ None ↦ refl | Some w ↦ ap (λ n. 1 + n) (sum_by-map (λ n. n) selections_inside w.items) ]

  pub inside_field : (s : Selection S) (f : Spanning (Field S) Span) (w : Vec (Selection S) Global) → s ≡ v.Field f → (out-Field S f.item).selection_set ≡ Some w → selections_inside s ≡ 1 + all_inside w.items
  inside_field s f w p q = inside_roll_field s f p ∙ ap (λ o. 1 + option_map_or (λ z. all_inside z.items) o 0) q

  pub inside_inline : (s : Selection S) (f : Spanning (InlineFragment S) Span) → s ≡ v.InlineFragment f → selections_inside s ≡ 1 + all_inside (out-InlineFragment S f.item).selection_set.items
  inside_inline s f p =
      ap selections_inside (p ∙ sym (v.rolls-InlineFragment f))
      ∙ fold-roll-Selection S ℕ ℕ ℕ selection_step field_step inline_step (open_tree.InlineFragment f)
      ∙ fold_out-InlineFragment S ℕ ℕ ℕ selection_step field_step inline_step f.item
      ∙ ap (λ n. 1 + n) (sum_by-map (λ n. n) selections_inside (out-InlineFragment S f.item).selection_set.items)

  -- where the set of a field is known, if it has one
  pub inside_by_set : (s : Selection S) (f : Spanning (Field S) Span) (o : Option (Vec (Selection S) Global)) → s ≡ v.Field f → o ≡ (out-Field S f.item).selection_set → IfSome o (λ set. selections_inside s ≡ 1 + all_inside set.items)
  inside_by_set s f None p q = tt
  inside_by_set s f (Some set) p q = inside_field s f set p (sym q)

  pub first_replaced : (xs ys : List (Selection S)) (x y : Selection S) → 0 < length xs → x ≡ slice_index_or xs 0 x → ys ≡ slice_set xs 0 y → selections_inside x + all_inside ys ≡ all_inside xs + selections_inside y
  first_replaced [] ys x y h p q = omega (arith, h)
  first_replaced (z ∷ zs) ys x y h p q = omega (arith, sum_by-cons selections_inside z zs, ap all_inside q, sum_by-cons selections_inside y zs, ap selections_inside p)

  pub first_within : (xs : List (Selection S)) (x : Selection S) → 0 < length xs → x ≡ slice_index_or xs 0 x → selections_inside x < 1 + all_inside xs
  first_within [] x h p = omega (arith, h)
  first_within (z ∷ zs) x h p = omega (arith, sum_by-cons selections_inside z zs, ap selections_inside p)
