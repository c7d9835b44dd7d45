-- The equations of `placed_spreads_of`.
use Rattle.std.proofs.Common.{◌≡◌, [], ◌∷◌, sym, ap, ◌∙◌, refl}
use Rattle.std.specs.Prelude.{Some, None, Vec}
use Rattle.std.specs.declared.alloc.Global.{Global}
use Rattle.std.specs.Option.{option_map_or}
use Rattle.std.proofs.lemmas.List.Folds.{flat_map-map}
use Rattle.language_types.specs.declared.position.Span.{Span}
use Rattle.language_types.specs.declared.position.Spanning.{Spanning}
use Rattle.language.specs.declared.tree.Field.{Field, fold_out-Field, out-Field, fold-Field, map-Field}
use Rattle.language.specs.declared.tree.InlineFragment.{InlineFragment, fold_out-InlineFragment, out-InlineFragment, fold-InlineFragment}
use Rattle.language.specs.declared.tree.FragmentSpread.{FragmentSpread}
use Rattle.language.specs.declared.tree.Selection.{Selection, fold-roll-Selection}
use Rattle.language.specs.declared.tree.Selection.TheVariants as v
use Rattle.language.specs.declared.tree.Selection.TheOpen as open_tree
use Rattle.fragment_graph.specs.Spreads.{PlacedSpreads, selection_step, field_step, inline_step, placed_spreads_of, placed_spreads_of_all}

module _ {S : Type 0} where
  pub placed-roll-Field : (s : Selection S) (f : Spanning (Field S) Span) → s ≡ v.Field f → placed_spreads_of s ≡ option_map_or (λ w. placed_spreads_of_all w.items) (out-Field S f.item).selection_set []
  placed-roll-Field s f p =
      ap placed_spreads_of (p ∙ sym (v.rolls-Field f))
      ∙ fold-roll-Selection S PlacedSpreads PlacedSpreads PlacedSpreads selection_step field_step inline_step (open_tree.Field f)
      ∙ fold_out-Field S PlacedSpreads PlacedSpreads PlacedSpreads selection_step field_step inline_step f.item
      ∙ elim (out-Field S f.item).selection_set as (λ o. field_step (map-Field S (Selection S) (Field S) (InlineFragment S) PlacedSpreads PlacedSpreads PlacedSpreads placed_spreads_of (fold-Field S PlacedSpreads PlacedSpreads PlacedSpreads selection_step field_step inline_step) (fold-InlineFragment S PlacedSpreads PlacedSpreads PlacedSpreads selection_step field_step inline_step) (record (out-Field S f.item) { selection_set = o })) ≡ option_map_or (λ w. placed_spreads_of_all w.items) o []) [ None ↦ refl | Some w ↦ flat_map-map (λ ns. ns) placed_spreads_of w.items ]

  pub placed-Field : (s : Selection S) (f : Spanning (Field S) Span) (w : Vec (Selection S) Global) → s ≡ v.Field f → (out-Field S f.item).selection_set ≡ Some w → placed_spreads_of s ≡ placed_spreads_of_all w.items
  placed-Field s f w p q = placed-roll-Field s f p ∙ ap (λ o. option_map_or (λ z. placed_spreads_of_all z.items) o []) q

  pub placed-Spread : (s : Selection S) (f : Spanning (FragmentSpread S) Span) → s ≡ v.FragmentSpread f → placed_spreads_of s ≡ record { name = f.item.name.item.now; place = f.span.start } ∷ []
  placed-Spread s f p =
      ap placed_spreads_of (p ∙ sym (v.rolls-FragmentSpread f))
      ∙ fold-roll-Selection S PlacedSpreads PlacedSpreads PlacedSpreads selection_step field_step inline_step (open_tree.FragmentSpread f)

  pub placed-Inline : (s : Selection S) (f : Spanning (InlineFragment S) Span) → s ≡ v.InlineFragment f → placed_spreads_of s ≡ placed_spreads_of_all (out-InlineFragment S f.item).selection_set.items
  placed-Inline s f p =
      ap placed_spreads_of (p ∙ sym (v.rolls-InlineFragment f))
      ∙ fold-roll-Selection S PlacedSpreads PlacedSpreads PlacedSpreads selection_step field_step inline_step (open_tree.InlineFragment f)
      ∙ fold_out-InlineFragment S PlacedSpreads PlacedSpreads PlacedSpreads selection_step field_step inline_step f.item
      ∙ flat_map-map (λ ns. ns) placed_spreads_of (out-InlineFragment S f.item).selection_set.items
