-- The equations of `measures_of`.
use Rattle.std.proofs.Common.{◌≡◌, ◌+◌, ℕ, List, [], ◌∷◌, ◌++◌, map, sym, ap, ◌∙◌, refl, arith}
use Rattle.std.specs.Prelude.{Some, None, Vec, Option}
use Rattle.std.specs.declared.alloc.Global.{Global}
use Rattle.std.specs.Option.{option_map_or}
use Rattle.language_types.specs.declared.position.Span.{Span}
use Rattle.language_types.specs.declared.position.Spanning.{Spanning}
use Rattle.language.specs.declared.tree.Field.{Field, fold_out-Field, out-Field, fold-Field, map-Field}
use Rattle.language.specs.declared.tree.InlineFragment.{InlineFragment, fold_out-InlineFragment, out-InlineFragment, fold-InlineFragment}
use Rattle.language.specs.declared.tree.FragmentSpread.{FragmentSpread}
use Rattle.language.specs.declared.tree.Selection.{Selection, fold-roll-Selection}
use Rattle.language.specs.declared.tree.Selection.TheVariants as v
use Rattle.language.specs.declared.tree.Selection.TheOpen as open_tree
use Rattle.language.specs.SelectionsInside.{selections_inside, all_inside}
use Rattle.language.proofs.InsideTree.{inside_roll_field, inside_inline}
use Rattle.measures.specs.declared.measure.Measures.{Measures}
use Rattle.measures.specs.Measure.{nothing, all_together, directive_count, with_directives}
use Rattle.measures.specs.Written.{field_measures, alias_count, selection_step, field_step, inline_step, measures_of, set_measures}

module _ {S : Type 0} (fragment : List ℕ → Measures) where
  pub measures_of-Field : (s : Selection S) (f : Spanning (Field S) Span) → s ≡ v.Field f
      → measures_of fragment s ≡ field_measures (out-Field S f.item).name.item.now (alias_count (out-Field S f.item).alias)
      (directive_count (out-Field S f.item).directives) (set_measures fragment (option_map_or (λ w. w.items) (out-Field S f.item).selection_set []))
  measures_of-Field s f p =
      ap (measures_of fragment) (p ∙ sym (v.rolls-Field f))
      ∙ fold-roll-Selection S Measures Measures Measures (selection_step fragment) field_step inline_step (open_tree.Field f)
      ∙ fold_out-Field S Measures Measures Measures (selection_step fragment) field_step inline_step f.item
      ∙ elim (out-Field S f.item).selection_set as (λ o. field_step (map-Field S (Selection S) (Field S) (InlineFragment S) Measures Measures Measures (measures_of fragment) (fold-Field S Measures Measures Measures (selection_step fragment) field_step inline_step) (fold-InlineFragment S Measures Measures Measures (selection_step fragment) field_step inline_step) (record (out-Field S f.item) { selection_set = o }))
      ≡ field_measures (out-Field S f.item).name.item.now (alias_count (out-Field S f.item).alias) (directive_count (out-Field S f.item).directives) (set_measures fragment (option_map_or (λ w. w.items) o []))) [ None ↦ refl | Some w ↦ refl ]

  pub measures_of-Spread : (s : Selection S) (f : Spanning (FragmentSpread S) Span) → s ≡ v.FragmentSpread f
      → measures_of fragment s ≡ with_directives (directive_count f.item.directives) (fragment f.item.name.item.now)
  measures_of-Spread s f p =
      ap (measures_of fragment) (p ∙ sym (v.rolls-FragmentSpread f))
      ∙ fold-roll-Selection S Measures Measures Measures (selection_step fragment) field_step inline_step (open_tree.FragmentSpread f)

  pub measures_of-Inline : (s : Selection S) (f : Spanning (InlineFragment S) Span) → s ≡ v.InlineFragment f
      → measures_of fragment s ≡ with_directives (directive_count (out-InlineFragment S f.item).directives) (set_measures fragment (out-InlineFragment S f.item).selection_set.items)
  measures_of-Inline s f p =
      ap (measures_of fragment) (p ∙ sym (v.rolls-InlineFragment f))
      ∙ fold-roll-Selection S Measures Measures Measures (selection_step fragment) field_step inline_step (open_tree.InlineFragment f)
      ∙ fold_out-InlineFragment S Measures Measures Measures (selection_step fragment) field_step inline_step f.item

module _ {S : Type 0} where
  -- the set of a field, empty where it has none
  pub inside_field_set : (s : Selection S) (f : Spanning (Field S) Span) → s ≡ v.Field f
      → selections_inside s ≡ 1 + all_inside (option_map_or (λ w. w.items) (out-Field S f.item).selection_set [])
  inside_field_set s f p = inside_roll_field s f p ∙ ap (λ n. 1 + n) (by_option (out-Field S f.item).selection_set)
    where
      by_option : (o : Option (Vec (Selection S) Global)) → option_map_or (λ w. all_inside w.items) o 0 ≡ all_inside (option_map_or (λ w. w.items) o [])
      by_option None = refl
      by_option (Some w) = refl
