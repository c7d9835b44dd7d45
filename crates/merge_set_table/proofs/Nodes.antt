-- Selections of one kind are none of another, and hold one node.
use Rattle.std.proofs.Common.{◌≡◌, [], ◌∷◌, Option, Some, None, sym, ap, ◌∙◌, zero, suc, arith}
use Rattle.std.specs.List.{Contains}
use Rattle.language.specs.declared.tree.Selection.{Selection, out-Selection, out-roll-Selection}
use Rattle.language.specs.declared.tree.Selection.TheOpen as opened
use Rattle.language.specs.declared.tree.Selection.TheVariants as selection
use Rattle.language.specs.declared.tree.Field.{Field}
use Rattle.language.specs.declared.tree.FragmentSpread.{FragmentSpread}
use Rattle.language.specs.declared.tree.InlineFragment.{InlineFragment}
use Rattle.merge_field_pairs.specs.OwnFields.{Placed}
use Rattle.merge_set_table.proofs.Lists.{same_some}

abbrev Layer : Type 0 → Type 0
Layer S = opened.Selection-F S (Selection S) (Field S) (InlineFragment S)

-- the only member of a list of one
only : {X : Type 0} (x y : X) → Contains (x ∷ []) y → x ≡ y
only x y (zero, l, e) = e
only x y (suc k, l, e) = absurd (omega (arith, l))

module _ {S : Type 0} where
  abbrev field_in : Layer S → Option (Placed (Field S))
  field_in (opened.Field f) = Some f
  field_in (opened.FragmentSpread s) = None
  field_in (opened.InlineFragment i) = None

  abbrev inline_in : Layer S → Option (Placed (InlineFragment S))
  inline_in (opened.Field f) = None
  inline_in (opened.FragmentSpread s) = None
  inline_in (opened.InlineFragment i) = Some i

  out_field : (f : Placed (Field S)) → out-Selection S (selection.Field f) ≡ opened.Field f
  out_field f = ap (out-Selection S) (sym (selection.rolls-Field f)) ∙ out-roll-Selection S (opened.Field f)

  out_inline : (i : Placed (InlineFragment S)) → out-Selection S (selection.InlineFragment i) ≡ opened.InlineFragment i
  out_inline i = ap (out-Selection S) (sym (selection.rolls-InlineFragment i)) ∙ out-roll-Selection S (opened.InlineFragment i)

  pub only_field : (f g : Placed (Field S)) → Contains (selection.Field f ∷ []) (selection.Field g) → f ≡ g
  only_field f g c = same_some f g (ap field_in (sym (out_field f) ∙ ap (out-Selection S) (only (selection.Field f) (selection.Field g) c) ∙ out_field g))

  pub only_inline : (i j : Placed (InlineFragment S)) → Contains (selection.InlineFragment i ∷ []) (selection.InlineFragment j) → i ≡ j
  only_inline i j c = same_some i j (ap inline_in (sym (out_inline i) ∙ ap (out-Selection S) (only (selection.InlineFragment i) (selection.InlineFragment j) c) ∙ out_inline j))

  pub no_field : (i : Placed (InlineFragment S)) (f : Placed (Field S)) → Contains (selection.InlineFragment i ∷ []) (selection.Field f) → ⊥
  no_field i f c = clash (only (selection.InlineFragment i) (selection.Field f) c)
    where
      clash : selection.InlineFragment i ≡ selection.Field f → ⊥
      clash same = cc

  pub no_inline : (f : Placed (Field S)) (i : Placed (InlineFragment S)) → Contains (selection.Field f ∷ []) (selection.InlineFragment i) → ⊥
  no_inline f i c = clash (only (selection.Field f) (selection.InlineFragment i) c)
    where
      clash : selection.Field f ≡ selection.InlineFragment i → ⊥
      clash same = cc

  pub spread_no_field : (s : Placed (FragmentSpread S)) (f : Placed (Field S)) → Contains (selection.FragmentSpread s ∷ []) (selection.Field f) → ⊥
  spread_no_field s f c = clash (only (selection.FragmentSpread s) (selection.Field f) c)
    where
      clash : selection.FragmentSpread s ≡ selection.Field f → ⊥
      clash same = cc

  pub spread_no_inline : (s : Placed (FragmentSpread S)) (i : Placed (InlineFragment S)) → Contains (selection.FragmentSpread s ∷ []) (selection.InlineFragment i) → ⊥
  spread_no_inline s i c = clash (only (selection.FragmentSpread s) (selection.InlineFragment i) c)
    where
      clash : selection.FragmentSpread s ≡ selection.InlineFragment i → ⊥
      clash same = cc
