-- The equations of `selection_uses`, and how uses grow.
use Rattle.std.proofs.Common.{◌≡◌, ℕ, ◌+◌, ◌<◌, List, [], ◌++◌, length, get_or, take, sym, ap, ◌∙◌, refl, append-nil, append_assoc}
use Rattle.std.specs.Prelude.{Some, None}
use Rattle.std.specs.List.{flat_map}
use Rattle.std.specs.Option.{option_map_or}
use Rattle.std.proofs.lemmas.List.Folds.{flat_map-map}
use Rattle.language_types.specs.declared.position.Span.{Span}
use Rattle.language_types.specs.declared.position.Spanning.{Spanning}
use Rattle.language.specs.declared.tree.Field.{Field, fold_out-Field, out-Field, fold-Field, map-Field}
use Rattle.language.specs.declared.tree.InlineFragment.{InlineFragment, fold_out-InlineFragment, out-InlineFragment, fold-InlineFragment}
use Rattle.language.specs.declared.tree.FragmentSpread.{FragmentSpread}
use Rattle.language.specs.declared.tree.Selection.{Selection, fold-roll-Selection}
use Rattle.language.specs.declared.tree.Selection.TheVariants as v
use Rattle.language.specs.declared.tree.Selection.TheOpen as open_tree
use Rattle.fragment_graph.specs.Preorder.{set_inside}
use Rattle.fragment_graph.proofs.Joining.{flat_map-next}
use Rattle.fragment_graph.proofs.PreorderLaws.{set_of_field, set_inside-Spread, set_inside-Inline}
use Rattle.variable_usages.specs.Uses.{Uses, selection_step, field_step, inline_step, selection_uses, used_in_all, arguments_uses, directives_uses}

module _ {S : Type 0} where
  abbrev at_field : Field S → Uses
  at_field f = arguments_uses (out-Field S f).arguments ++ directives_uses (out-Field S f).directives

  pub uses-Field : (s : Selection S) (f : Spanning (Field S) Span) → s ≡ v.Field f → selection_uses s ≡ at_field f.item ++ option_map_or (λ w. used_in_all w.items) (out-Field S f.item).selection_set []
  uses-Field s f p =
      ap selection_uses (p ∙ sym (v.rolls-Field f))
      ∙ fold-roll-Selection S Uses Uses Uses selection_step field_step inline_step (open_tree.Field f)
      ∙ fold_out-Field S Uses Uses Uses selection_step field_step inline_step f.item
      ∙ elim (out-Field S f.item).selection_set as (λ o. field_step (map-Field S (Selection S) (Field S) (InlineFragment S) Uses Uses Uses selection_uses (fold-Field S Uses Uses Uses selection_step field_step inline_step) (fold-InlineFragment S Uses Uses Uses selection_step field_step inline_step) (record (out-Field S f.item) { selection_set = o })) ≡ at_field f.item ++ option_map_or (λ w. used_in_all w.items) o []) [ None ↦ refl | Some w ↦ ap (λ z. at_field f.item ++ z) (flat_map-map (λ us. us) selection_uses w.items) ]

  pub uses-Spread : (s : Selection S) (f : Spanning (FragmentSpread S) Span) → s ≡ v.FragmentSpread f → selection_uses s ≡ directives_uses f.item.directives
  uses-Spread s f p =
      ap selection_uses (p ∙ sym (v.rolls-FragmentSpread f))
      ∙ fold-roll-Selection S Uses Uses Uses selection_step field_step inline_step (open_tree.FragmentSpread f)

  pub uses-Inline : (s : Selection S) (f : Spanning (InlineFragment S) Span) → s ≡ v.InlineFragment f
      → selection_uses s ≡ directives_uses (out-InlineFragment S f.item).directives ++ used_in_all (out-InlineFragment S f.item).selection_set.items
  uses-Inline s f p =
      ap selection_uses (p ∙ sym (v.rolls-InlineFragment f))
      ∙ fold-roll-Selection S Uses Uses Uses selection_step field_step inline_step (open_tree.InlineFragment f)
      ∙ fold_out-InlineFragment S Uses Uses Uses selection_step field_step inline_step f.item
      ∙ ap (λ z. directives_uses (out-InlineFragment S f.item).directives ++ z) (flat_map-map (λ us. us) selection_uses (out-InlineFragment S f.item).selection_set.items)

-- one more in a loop
pub more_uses : {X : Type 0} (f : X → Uses) (xs : List X) (i : ℕ) (x : X) (old now new : Uses) → x ≡ get_or xs i x → i < length xs
    → now ≡ old ++ flat_map f (take i xs) → new ≡ now ++ f x → new ≡ old ++ flat_map f (take (i + 1) xs)
more_uses f xs i x old now new is l h e =
    e ∙ ap (λ z. z ++ f x) h ∙ append_assoc old (flat_map f (take i xs)) (f x) ∙ ap (λ z. old ++ z) (sym (flat_map-next f xs i x is l))

-- one part after another
pub then_uses : (old now new xs ys : Uses) → now ≡ old ++ xs → new ≡ now ++ ys → new ≡ old ++ (xs ++ ys)
then_uses old now new xs ys h e = e ∙ ap (λ z. z ++ ys) h ∙ append_assoc old xs ys

module _ {S : Type 0} (s : Selection S) (old : Uses) where
  -- a selection's own uses come before those of its set
  before_set : (own new : Uses) → selection_uses s ≡ own ++ used_in_all (set_inside s) → new ≡ old ++ own
      → new ++ used_in_all (set_inside s) ≡ old ++ selection_uses s
  before_set own new e h =
      ap (λ z. z ++ used_in_all (set_inside s)) h ∙ append_assoc old own (used_in_all (set_inside s)) ∙ ap (λ z. old ++ z) (sym e)

  -- those of a field are its arguments' and then its directives'
  pub field_own : (f : Spanning (Field S) Span) (a b : Uses) → s ≡ v.Field f
      → a ≡ old ++ arguments_uses (out-Field S f.item).arguments → b ≡ a ++ directives_uses (out-Field S f.item).directives
      → b ++ used_in_all (set_inside s) ≡ old ++ selection_uses s
  field_own f a b p h k =
      before_set (at_field f.item) b (uses-Field s f p ∙ ap (λ z. at_field f.item ++ z) (set_of_field selection_uses s f p))
      (then_uses old a b (arguments_uses (out-Field S f.item).arguments) (directives_uses (out-Field S f.item).directives) h k)

  pub spread_own : (f : Spanning (FragmentSpread S) Span) (new : Uses) → s ≡ v.FragmentSpread f
      → new ≡ old ++ directives_uses f.item.directives → new ++ used_in_all (set_inside s) ≡ old ++ selection_uses s
  spread_own f new p h =
      before_set (directives_uses f.item.directives) new
      (uses-Spread s f p
      ∙ sym (append-nil (directives_uses f.item.directives))
      ∙ ap (λ z. directives_uses f.item.directives ++ used_in_all z) (sym (set_inside-Spread s f p))) h

  pub inline_own : (f : Spanning (InlineFragment S) Span) (new : Uses) → s ≡ v.InlineFragment f
      → new ≡ old ++ directives_uses (out-InlineFragment S f.item).directives → new ++ used_in_all (set_inside s) ≡ old ++ selection_uses s
  inline_own f new p h =
      before_set (directives_uses (out-InlineFragment S f.item).directives) new
      (uses-Inline s f p ∙ ap (λ z. directives_uses (out-InlineFragment S f.item).directives ++ used_in_all z) (sym (set_inside-Inline s f p))) h
