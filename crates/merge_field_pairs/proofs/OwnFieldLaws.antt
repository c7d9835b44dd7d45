-- What each kind of selection has of its own.
use Rattle.std.proofs.Common.{◌≡◌, List, [], ◌∷◌, ◌++◌, map, Option, refl, sym, ap, ◌∙◌}
use Rattle.std.specs.List.{flat_map}
use Rattle.std.proofs.lemmas.List.Folds.{flat_map-map}
use Rattle.language_types.specs.declared.position.Span.{Span}
use Rattle.language_types.specs.declared.position.Spanning.{Spanning}
use Rattle.language.specs.declared.tree.Selection.{Selection, fold-roll-Selection}
use Rattle.language.specs.declared.tree.Selection.TheVariants as selection
use Rattle.language.specs.declared.tree.Selection.TheOpen as opened
use Rattle.language.specs.declared.tree.Selection.TheFolds.{para-roll-Selection, para-roll-InlineFragment}
use Rattle.language.specs.declared.tree.Field.{Field}
use Rattle.language.specs.declared.tree.FragmentSpread.{FragmentSpread}
use Rattle.language.specs.declared.tree.InlineFragment.{InlineFragment, fold_out-InlineFragment}
use Rattle.meta.specs.declared.kinds.MetaTypeOf.{MetaTypeOf}
use Rattle.schema.specs.Catalog.{Catalog}
use Rattle.merge_field_pairs.specs.OwnFields.{OwnUnder, Names, entry_under, type_inside, own_fields_of, own_fields, selection_step, field_step, inline_step, own_spreads_of, own_spreads, spread_step, no_spread_step, inline_spread_step}

module _ {S C : Type 0} (schema : Catalog S C) where
  abbrev one_under : Selection S → OwnUnder S C
  one_under s parent = own_fields_of schema parent s

  inside : (parent : Option (MetaTypeOf S C)) (set : List (Selection S)) → flat_map (λ (c : Selection S × OwnUnder S C). c.1 parent) (map (λ s. (s, one_under s)) set) ≡ own_fields schema parent set
  inside parent [] = refl
  inside parent (s ∷ set) = ap (λ ys. own_fields_of schema parent s ++ ys) (inside parent set)

  pub own_fields_of-Field : (parent : Option (MetaTypeOf S C)) (f : Spanning (Field S) Span) → own_fields_of schema parent (selection.Field f) ≡ entry_under parent f ∷ []
  own_fields_of-Field parent f =
      ap (own_fields_of schema parent) (sym (selection.rolls-Field f))
      ∙ ap (λ (b : OwnUnder S C). b parent) (para-roll-Selection S (OwnUnder S C) (OwnUnder S C) (OwnUnder S C) selection_step field_step (inline_step schema) (opened.Field f))

  pub own_fields_of-Spread : (parent : Option (MetaTypeOf S C)) (f : Spanning (FragmentSpread S) Span) → own_fields_of schema parent (selection.FragmentSpread f) ≡ []
  own_fields_of-Spread parent f =
      ap (own_fields_of schema parent) (sym (selection.rolls-FragmentSpread f))
      ∙ ap (λ (b : OwnUnder S C). b parent) (para-roll-Selection S (OwnUnder S C) (OwnUnder S C) (OwnUnder S C) selection_step field_step (inline_step schema) (opened.FragmentSpread f))

  pub own_fields_of-Inline : (parent : Option (MetaTypeOf S C)) (i : Spanning (InlineFragment S) Span) → own_fields_of schema parent (selection.InlineFragment i) ≡ own_fields schema (type_inside schema parent i.item.type_condition) i.item.selection_set.items
  own_fields_of-Inline parent i =
      ap (own_fields_of schema parent) (sym (selection.rolls-InlineFragment i))
      ∙ ap (λ (b : OwnUnder S C). b parent) (para-roll-Selection S (OwnUnder S C) (OwnUnder S C) (OwnUnder S C) selection_step field_step (inline_step schema) (opened.InlineFragment i))
      ∙ ap (λ (b : OwnUnder S C). b parent) (para-roll-InlineFragment S (OwnUnder S C) (OwnUnder S C) (OwnUnder S C) selection_step field_step (inline_step schema) (record { type_condition = i.item.type_condition; directives = i.item.directives; selection_set = i.item.selection_set }))
      ∙ inside (type_inside schema parent i.item.type_condition) i.item.selection_set.items

module _ {S : Type 0} where
  pub own_spreads_of-Field : (f : Spanning (Field S) Span) → own_spreads_of (selection.Field f) ≡ []
  own_spreads_of-Field f =
      ap own_spreads_of (sym (selection.rolls-Field f)) ∙ fold-roll-Selection S Names Names Names spread_step no_spread_step inline_spread_step (opened.Field f)

  pub own_spreads_of-Spread : (f : Spanning (FragmentSpread S) Span) → own_spreads_of (selection.FragmentSpread f) ≡ f.item.name.item.now ∷ []
  own_spreads_of-Spread f =
      ap own_spreads_of (sym (selection.rolls-FragmentSpread f))
      ∙ fold-roll-Selection S Names Names Names spread_step no_spread_step inline_spread_step (opened.FragmentSpread f)

  pub own_spreads_of-Inline : (i : Spanning (InlineFragment S) Span) → own_spreads_of (selection.InlineFragment i) ≡ own_spreads i.item.selection_set.items
  own_spreads_of-Inline i =
      ap own_spreads_of (sym (selection.rolls-InlineFragment i))
      ∙ fold-roll-Selection S Names Names Names spread_step no_spread_step inline_spread_step (opened.InlineFragment i)
      ∙ fold_out-InlineFragment S Names Names Names spread_step no_spread_step inline_spread_step i.item
      ∙ flat_map-map (λ ns. ns) own_spreads_of i.item.selection_set.items
