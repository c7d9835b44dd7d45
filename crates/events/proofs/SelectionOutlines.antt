-- The outline of each kind of selection.
use Rattle.std.proofs.Common.{◌≡◌, List, [], ◌∷◌, Some, None, map, refl, ap, sym, ◌∙◌}
use Rattle.language.specs.declared.tree.Selection.{Selection}
use Rattle.language.specs.declared.tree.Selection.TheVariants as selection
use Rattle.language.specs.declared.tree.Selection.TheOpen as opened
use Rattle.language.specs.declared.tree.Selection.TheFolds.{map-Field, para-Field, para-InlineFragment, para-roll-Selection, para-roll-Field, para-roll-InlineFragment}
use Rattle.language.specs.declared.tree.Field.{Field}
use Rattle.language.specs.declared.tree.FragmentSpread.{FragmentSpread}
use Rattle.language.specs.declared.tree.InlineFragment.{InlineFragment}
use Rattle.schema.specs.Catalog.{Catalog}
use Rattle.events.specs.Node
use Rattle.events.specs.Node.{Placed}
use Rattle.events.specs.SchemaView.{field_arguments}
use Rattle.events.specs.Typing.{Typing, at_set, at_field, at_inline}
use Rattle.events.specs.Outline.{Outline, Below, beside, each, node_with, outline_of_arguments, outline_of_directives, set_step, set_step_if_there, field_step, inline_step, selection_step, outline_of_selection, outline_of_set, outline_of_set_if_there, outline_of_field, outline_of_spread, outline_of_inline}

firsts : {A B : Type 0} (f : A → B) (xs : List A) → map (λ (c : A × B). c.0) (map (λ y. (y, f y)) xs) ≡ xs
firsts f [] = refl
firsts f (x ∷ xs) = ap (λ ys. x ∷ ys) (firsts f xs)

module _ {S C : Type 0} (schema : Catalog S C) where
  abbrev selection_below : Selection S → Below S C
  selection_below s t = outline_of_selection schema t s

  seconds : (t : Typing S C) (xs : List (Selection S)) → each (λ (c : Selection S × Below S C). c.1 t) (map (λ y. (y, selection_below y)) xs) ≡ each (outline_of_selection schema t) xs
  seconds t [] = refl
  seconds t (x ∷ xs) = ap (λ ys. beside (outline_of_selection schema t x) ys) (seconds t xs)

  abbrev field_below : Field S → Below S C
  field_below = para-Field S (Below S C) (Below S C) (Below S C) (selection_step schema) (field_step schema) (inline_step schema)

  abbrev inline_below : InlineFragment S → Below S C
  inline_below = para-InlineFragment S (Below S C) (Below S C) (Below S C) (selection_step schema) (field_step schema) (inline_step schema)

  set_is : (t : Typing S C) (xs : List (Selection S)) → set_step (map (λ y. (y, selection_below y)) xs) t ≡ outline_of_set schema t xs
  set_is t xs =
      ap (λ ys. node_with (Node.selection_set ys) (at_set t) (each (λ (c : Selection S × Below S C). c.1 (at_set t)) (map (λ y. (y, selection_below y)) xs))) (firsts selection_below xs)
      ∙ ap (λ z. node_with (Node.selection_set xs) (at_set t) z) (seconds (at_set t) xs)

  -- a field with each selection in it beside its outline
  abbrev with_outlines : opened.Field-F S (Selection S) (Field S) (InlineFragment S) → opened.Field-F S (Selection S × Below S C) (Field S × Below S C) (InlineFragment S × Below S C)
  with_outlines =
      map-Field S (Selection S) (Field S) (InlineFragment S) (Selection S × Below S C) (Field S × Below S C) (InlineFragment S × Below S C) (λ y. (y, selection_below y)) (λ y. (y, field_below y)) (λ y. (y, inline_below y))

  abbrev inside_field : Typing S C → Field S → Outline S C → Outline S C
  inside_field t f set =
      beside (outline_of_arguments schema (field_arguments t.parent f.name.item.now) t f.arguments) (beside (outline_of_directives schema t f.directives) set)

  field_is : (t : Typing S C) (f : Field S) → field_below f t ≡ inside_field t f (outline_of_set_if_there schema t f.selection_set)
  unfolding outline_of_selection
  field_is t f =
      ap (λ (b : Below S C). b t) (para-roll-Field S (Below S C) (Below S C) (Below S C) (selection_step schema) (field_step schema) (inline_step schema) (record { alias = f.alias; name = f.name; arguments = f.arguments; directives = f.directives; selection_set = f.selection_set }))
      ∙ (elim f.selection_set as (λ o. inside_field t f (set_step_if_there (with_outlines (record { alias = f.alias; name = f.name; arguments = f.arguments; directives = f.directives; selection_set = o })).selection_set t) ≡ inside_field t f (outline_of_set_if_there schema t o)) [ None ↦ refl | Some v ↦ ap (inside_field t f) (set_is t v.items) ])

  inline_is : (t : Typing S C) (i : InlineFragment S) → inline_below i t ≡ beside (outline_of_directives schema t i.directives) (outline_of_set schema t i.selection_set.items)
  unfolding outline_of_selection
  inline_is t i =
      ap (λ (b : Below S C). b t) (para-roll-InlineFragment S (Below S C) (Below S C) (Below S C) (selection_step schema) (field_step schema) (inline_step schema) (record { type_condition = i.type_condition; directives = i.directives; selection_set = i.selection_set }))
      ∙ ap (λ z. beside (outline_of_directives schema t i.directives) z) (set_is t i.selection_set.items)

  pub of_field : (t : Typing S C) (f : Placed (Field S)) → outline_of_selection schema t (selection.Field f) ≡ outline_of_field schema t f
  unfolding outline_of_selection
  of_field t f =
      ap (λ s. outline_of_selection schema t s) (sym (selection.rolls-Field f))
      ∙ ap (λ (b : Below S C). b t) (para-roll-Selection S (Below S C) (Below S C) (Below S C) (selection_step schema) (field_step schema) (inline_step schema) (opened.Field f))
      ∙ ap (λ z. node_with (Node.field f) (at_field schema t f.item) z) (field_is (at_field schema t f.item) f.item)

  pub of_spread : (t : Typing S C) (s : Placed (FragmentSpread S)) → outline_of_selection schema t (selection.FragmentSpread s) ≡ outline_of_spread schema t s
  unfolding outline_of_selection
  of_spread t f =
      ap (λ s. outline_of_selection schema t s) (sym (selection.rolls-FragmentSpread f))
      ∙ ap (λ (b : Below S C). b t) (para-roll-Selection S (Below S C) (Below S C) (Below S C) (selection_step schema) (field_step schema) (inline_step schema) (opened.FragmentSpread f))

  pub of_inline : (t : Typing S C) (i : Placed (InlineFragment S)) → outline_of_selection schema t (selection.InlineFragment i) ≡ outline_of_inline schema t i
  unfolding outline_of_selection
  of_inline t i =
      ap (λ s. outline_of_selection schema t s) (sym (selection.rolls-InlineFragment i))
      ∙ ap (λ (b : Below S C). b t) (para-roll-Selection S (Below S C) (Below S C) (Below S C) (selection_step schema) (field_step schema) (inline_step schema) (opened.InlineFragment i))
      ∙ ap (λ z. node_with (Node.inline_fragment i) (at_inline schema t i.item) z) (inline_is (at_inline schema t i.item) i.item)
