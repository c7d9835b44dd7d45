-- What is left of selection sets, as selections are taken from them one by one.
use Rattle.std.proofs.Common.{◌≡◌, ◌+◌, ◌<◌, ℕ, List, [], ◌∷◌, ◌++◌, map, refl, sym, ap, ◌∙◌, arith, append_assoc, append-nil, Vec}
use Rattle.std.specs.Prelude.{Option, Some, None}
use Rattle.std.specs.List.{flat_map}
use Rattle.std.specs.Option.{option_map_or}
use Rattle.std.proofs.lemmas.Grind.{flat_map-append}
use Rattle.std.proofs.lemmas.List.{reverse-append, map-append}
use Rattle.std.proofs.lemmas.List.Sums.{sum_by-cons, sum_by-append}
use Rattle.std.specs.declared.alloc.Global.{Global}
use denote.Ref.{Bor}
use Rattle.language_types.specs.declared.position.Span.{Span}
use Rattle.language_types.specs.declared.position.Spanning.{Spanning}
use Rattle.language.specs.declared.tree.Field.{Field, fold_out-Field, out-Field, fold-Field, map-Field}
use Rattle.language.specs.declared.tree.FragmentSpread.{FragmentSpread}
use Rattle.language.specs.declared.tree.InlineFragment.{InlineFragment, fold_out-InlineFragment, out-InlineFragment, fold-InlineFragment}
use Rattle.language.specs.declared.tree.Selection.{Selection, out-Selection, out-roll-Selection, fold_out-Selection, map-Selection}
use Rattle.language.specs.declared.tree.Selection.TheVariants as v
use Rattle.language.specs.declared.tree.Selection.TheOpen as open_tree
use Rattle.language.specs.SelectionsInside.{selection_step, field_step, inline_step, selections_inside, all_inside}
use Rattle.language_values.proofs.InsideLaws.{sum_by-map}
use Rattle.fragment_graph.specs.declared.preorder.Preorder.{Preorder}
use Rattle.fragment_graph.specs.Preorder.{set_in, set_inside, all_waiting, left, ComesNext}

module _ {S : Type 0} where
  pub set_inside-Field : (s : Selection S) (f : Spanning (Field S) Span) → s ≡ v.Field f → set_inside s ≡ option_map_or (λ w. w.items) f.item.selection_set []
  set_inside-Field s f p = ap set_inside (p ∙ sym (v.rolls-Field f)) ∙ ap set_in (out-roll-Selection S (open_tree.Field f))

  pub set_inside-Spread : (s : Selection S) (f : Spanning (FragmentSpread S) Span) → s ≡ v.FragmentSpread f → set_inside s ≡ []
  set_inside-Spread s f p = ap set_inside (p ∙ sym (v.rolls-FragmentSpread f)) ∙ ap set_in (out-roll-Selection S (open_tree.FragmentSpread f))

  pub set_inside-Inline : (s : Selection S) (f : Spanning (InlineFragment S) Span) → s ≡ v.InlineFragment f → set_inside s ≡ f.item.selection_set.items
  set_inside-Inline s f p = ap set_inside (p ∙ sym (v.rolls-InlineFragment f)) ∙ ap set_in (out-roll-Selection S (open_tree.InlineFragment f))

  by_layer : (x : open_tree.Selection-F S (Selection S) (Field S) (InlineFragment S))
      → selection_step (map-Selection S (Selection S) (Field S) (InlineFragment S) ℕ ℕ ℕ selections_inside (fold-Field S ℕ ℕ ℕ selection_step field_step inline_step) (fold-InlineFragment S ℕ ℕ ℕ selection_step field_step inline_step) x) ≡ 1 + all_inside (set_in x)
  by_layer (open_tree.Field f) =
      fold_out-Field S ℕ ℕ ℕ selection_step field_step inline_step f.item
      ∙ elim (out-Field S f.item).selection_set as (λ o. field_step (map-Field S (Selection S) (Field S) (InlineFragment S) ℕ ℕ ℕ selections_inside (fold-Field S ℕ ℕ ℕ selection_step field_step inline_step) (fold-InlineFragment S ℕ ℕ ℕ selection_step field_step inline_step) (record (out-Field S f.item) { selection_set = o })) ≡ 1 + all_inside (option_map_or (λ w. w.items) o [])) [ None ↦ refl | Some w ↦ ap (λ n. 1 + n) (sum_by-map (λ n. n) selections_inside w.items) ]
  by_layer (open_tree.FragmentSpread s) = refl
  by_layer (open_tree.InlineFragment i) =
      fold_out-InlineFragment S ℕ ℕ ℕ selection_step field_step inline_step i.item
      ∙ ap (λ n. 1 + n) (sum_by-map (λ n. n) selections_inside (out-InlineFragment S i.item).selection_set.items)

  -- a selection, and those of its set
  pub inside_set : (s : Selection S) → selections_inside s ≡ 1 + all_inside (set_inside s)
  inside_set s = fold_out-Selection S ℕ ℕ ℕ selection_step field_step inline_step s ∙ by_layer (out-Selection S s)

  -- less is left after each
  pub fewer_left : (old new : Preorder S) (s : Selection S) → ComesNext old new s → all_inside (left new) < all_inside (left old)
  fewer_left old new s c =
      omega (arith, ap all_inside c.first, sum_by-cons selections_inside s c.others, ap all_inside c.after, sum_by-append selections_inside (set_inside s) c.others, inside_set s)

  pub waiting_push : (ws : List (Bor (List (Selection S)))) (w : Bor (List (Selection S))) → all_waiting (ws ++ w ∷ []) ≡ w.now ++ all_waiting ws
  waiting_push ws w = ap (λ us. flat_map (λ (u : Bor (List (Selection S))). u.now) us) (reverse-append ws (w ∷ []))

-- What was gathered from the selections that were taken, and what those have that are left, is all there is.
module _ {X Y : Type 0} (f : X → List Y) where
  pub gathered_next : (s : X) (inside others before after : List X) (now new total : List Y) → before ≡ s ∷ others → after ≡ inside ++ others
      → new ++ flat_map f inside ≡ now ++ f s → now ++ flat_map f before ≡ total → new ++ flat_map f after ≡ total
  gathered_next s inside others before after now new total p q e h =
      ap (λ z. new ++ flat_map f z) q
      ∙ ap (λ z. new ++ z) (flat_map-append f inside others)
      ∙ sym (append_assoc new (flat_map f inside) (flat_map f others))
      ∙ ap (λ z. z ++ flat_map f others) e
      ∙ append_assoc now (f s) (flat_map f others)
      ∙ ap (λ z. now ++ flat_map f z) (sym p)
      ∙ h

  pub gathered_all : (left : List X) (now total : List Y) → left ≡ [] → now ++ flat_map f left ≡ total → now ≡ total
  gathered_all left now total e h = sym (append-nil now) ∙ ap (λ z. now ++ flat_map f z) (sym e) ∙ h

pub flat_map-of_maps : {X Y Z : Type 0} (r : Y → Z) (f : X → List Y) (xs : List X) → flat_map (λ x. map r (f x)) xs ≡ map r (flat_map f xs)
flat_map-of_maps r f [] = refl
flat_map-of_maps r f (x ∷ xs) = ap (λ z. map r (f x) ++ z) (flat_map-of_maps r f xs) ∙ sym (map-append r (f x) (flat_map f xs))

-- What the set of a field has.
pub set_of_field : {S Y : Type 0} (f : Selection S → List Y) (s : Selection S) (x : Spanning (Field S) Span) → s ≡ v.Field x
    → option_map_or (λ w. flat_map f w.items) x.item.selection_set [] ≡ flat_map f (set_inside s)
set_of_field {S} f s x p = by_option x.item.selection_set ∙ ap (flat_map f) (sym (set_inside-Field s x p))
  where
    by_option : (o : Option (Vec (Selection S) Global)) → option_map_or (λ w. flat_map f w.items) o [] ≡ flat_map f (option_map_or (λ w. w.items) o [])
    by_option None = refl
    by_option (Some w) = refl
