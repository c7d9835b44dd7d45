-- A set is the same under other numbers, where they agree on the names that it spreads.
use Rattle.std.proofs.Common.{◌≡◌, ℕ, zero, suc, List, [], ◌∷◌, ◌++◌, Option, Some, slice_get, sym, subst, ◌∙◌, append-nil, refl}
use Rattle.std.specs.List.{Contains, flat_map}
use Rattle.std.proofs.lemmas.List.Elements.{Contains-append_left, Contains-append_right}
use Rattle.std.proofs.lemmas.Grind.{flat_map-append}
use Rattle.language.specs.declared.tree.Selection.{Selection}
use Rattle.language.specs.declared.tree.Selection.TheVariants as selection
use Rattle.language.specs.declared.tree.FragmentSpread.{FragmentSpread}
use Rattle.meta.specs.declared.kinds.MetaTypeOf.{MetaTypeOf}
use Rattle.schema.specs.Catalog.{Catalog}
use Rattle.fragment_graph.specs.Spreads.{PlacedSpread, PlacedSpreads, placed_spreads_of, placed_spreads_of_all}
use Rattle.fragment_graph.proofs.Lists.{one_contains, none_some, same_some, contains_get}
use Rattle.fragment_graph.proofs.Placed.{placed-Field, placed-Spread, placed-Inline}
use Rattle.merge_field_pairs.specs.OwnFields.{Placed}
use Rattle.merge_sets.specs.declared.node.Entry.{Entry as OwnField}
use Rattle.merge_set_table.specs.Table.{Numbered, Extends}
use Rattle.merge_set_table.specs.Represents.{Represents, nothing, join, leaf, field, spread, unknown, inline, IsSetOf}
use Rattle.merge_set_table.specs.Inside.{IsInside, itself, below_field, of_inline}
use Rattle.merge_set_table.specs.Parts.{IsPartAt}
use Rattle.merge_set_table.proofs.Representing.{represents_more}

pub in_flat : {X Y : Type 0} (f : X → List Y) (xs : List X) (k : ℕ) (x : X) (y : Y) → slice_get xs k ≡ Some x → Contains (f x) y → Contains (flat_map f xs) y
in_flat f [] k x y h c = absurd (none_some x h)
in_flat f (z ∷ xs) zero x y h c = Contains-append_left (f z) (flat_map f xs) y (subst (λ w. Contains (f w) y) (sym (same_some z x h)) c)
in_flat f (z ∷ xs) (suc k) x y h c = Contains-append_right (f z) (flat_map f xs) y (in_flat f xs k x y h c)

-- They give each name that is spread the same number.
abbrev pub AgreeOn : (List ℕ → Option ℕ) → (List ℕ → Option ℕ) → PlacedSpreads → Type 0
AgreeOn old new spreads = (x : PlacedSpread) → Contains spreads x → old x.name ≡ new x.name

module _ {S C : Type 0} (schema : Catalog S C) (old new : List ℕ → Option ℕ) (m : Numbered S C) where
  one_placed : (x : Selection S) (ys : PlacedSpreads) → placed_spreads_of x ≡ ys → placed_spreads_of_all (x ∷ []) ≡ ys
  one_placed x ys e = append-nil (placed_spreads_of x) ∙ e

  agree_as : (xs ys : PlacedSpreads) → xs ≡ ys → AgreeOn old new xs → AgreeOn old new ys
  agree_as xs ys e a = λ x c. a x (subst (λ zs. Contains zs x) (sym e) c)

  at_spread : (s : Placed (FragmentSpread S)) → AgreeOn old new (placed_spreads_of_all (selection.FragmentSpread s ∷ [])) → old s.item.name.item.now ≡ new s.item.name.item.now
  at_spread s a =
      let x : PlacedSpread = record { name = s.item.name.item.now; place = s.span.start } in
      agree_as _ (x ∷ []) (one_placed (selection.FragmentSpread s) (x ∷ []) (placed-Spread (selection.FragmentSpread s) s refl)) a x (one_contains x)

  pub renumbered : {p : Option (MetaTypeOf S C)} {xs : List (Selection S)} {own : List OwnField} {to : List ℕ}
      → Represents schema old m p xs own to → AgreeOn old new (placed_spreads_of_all xs) → Represents schema new m p xs own to
  renumbered nothing a = nothing
  renumbered (join {xs = xs} {ys = ys} h k) a =
      let both : AgreeOn old new (placed_spreads_of_all xs ++ placed_spreads_of_all ys) = agree_as _ _ (flat_map-append placed_spreads_of xs ys) a in
      join (renumbered h (λ x c. both x (Contains-append_left (placed_spreads_of_all xs) (placed_spreads_of_all ys) x c)))
      (renumbered k (λ x c. both x (Contains-append_right (placed_spreads_of_all xs) (placed_spreads_of_all ys) x c)))
  renumbered (leaf f b is none below) a = leaf f b is none below
  renumbered (field f b w n row to is some below stored once r) a =
      field f b w n row to is some below stored once
      (renumbered r (agree_as _ _ (one_placed (selection.Field f) (placed_spreads_of_all w.items) (placed-Field (selection.Field f) f w refl some)) a))
  renumbered (spread s g h) a = spread s g (sym (at_spread s a) ∙ h)
  renumbered (unknown s h) a = unknown s (sym (at_spread s a) ∙ h)
  renumbered (inline i own to to' same r) a =
      inline i own to to' same
      (renumbered r (agree_as _ _ (one_placed (selection.InlineFragment i) (placed_spreads_of_all i.item.selection_set.items) (placed-Inline (selection.InlineFragment i) i refl)) a))

  pub set_renumbered : (n : ℕ) (p : Option (MetaTypeOf S C)) (set : List (Selection S)) → IsSetOf schema old m n p set → AgreeOn old new (placed_spreads_of_all set) → IsSetOf schema new m n p set
  set_renumbered n p set is a = record { row = is.row; to = is.to; stored = is.stored; once = is.once; represents = renumbered is.represents a }

module _ {S C : Type 0} (schema : Catalog S C) (numbers : List ℕ → Option ℕ) where
  pub set_more : (m m' : Numbered S C) (n : ℕ) (p : Option (MetaTypeOf S C)) (set : List (Selection S)) → Extends m m' → IsSetOf schema numbers m n p set → IsSetOf schema numbers m' n p set
  set_more m m' n p set e is = record { row = is.row; to = is.to; stored = e.sets n is.row is.stored; once = is.once; represents = represents_more schema numbers e is.represents }

  pub part_more : (m m' : Numbered S C) (n : ℕ) (p : Option (MetaTypeOf S C)) (set : List (Selection S)) → Extends m m' → IsPartAt schema numbers m n p set → IsPartAt schema numbers m' n p set
  part_more m m' n p set e h = record { type = h.type; set = h.set; is = set_more m m' n h.type h.set e h.is; part = h.part }

-- what a set inside spreads is spread at some depth
pub spreads_inside : {S C : Type 0} (schema : Catalog S C) {p : Option (MetaTypeOf S C)} {set : List (Selection S)} {q : Option (MetaTypeOf S C)} {inner : List (Selection S)}
    → IsInside schema p set q inner → (x : PlacedSpread) → Contains (placed_spreads_of_all inner) x → Contains (placed_spreads_of_all set) x
spreads_inside schema itself x c = c
spreads_inside schema (below_field {inner = inner} f w i at some) x c =
    let k = contains_get inner (selection.Field f) at in
    spreads_inside schema i x (in_flat placed_spreads_of inner k.0 (selection.Field f) x k.1 (subst (λ zs. Contains zs x) (sym (placed-Field (selection.Field f) f w refl some)) c))
spreads_inside schema (of_inline {inner = inner} f i at) x c =
    let k = contains_get inner (selection.InlineFragment f) at in
    spreads_inside schema i x (in_flat placed_spreads_of inner k.0 (selection.InlineFragment f) x k.1 (subst (λ zs. Contains zs x) (sym (placed-Inline (selection.InlineFragment f) f refl)) c))
