-- A table represents selection sets.
use Rattle.std.specs.Prelude.{◌≡◌, ℕ, List, [], ◌∷◌, ◌++◌, Option, Some, None, slice_get}
use Rattle.std.specs.declared.vec.Vec.{Vec}
use Rattle.std.specs.declared.alloc.Global.{Global}
use Rattle.language.specs.declared.tree.Selection.{Selection}
use Rattle.language.specs.declared.tree.Selection.TheVariants as selection
use Rattle.language.specs.declared.tree.Field.{Field}
use Rattle.language.specs.declared.tree.FragmentSpread.{FragmentSpread}
use Rattle.language.specs.declared.tree.InlineFragment.{InlineFragment}
use Rattle.meta.specs.declared.kinds.MetaTypeOf.{MetaTypeOf}
use Rattle.schema.specs.Catalog.{Catalog}
use Rattle.merge_field_pairs.specs.OwnFields.{Placed, entry_under, type_inside, type_below}
use Rattle.merge_sets.specs.declared.node.Entry.{Entry as OwnField}
use Rattle.merge_set_table.specs.declared.table.NumberedSet.{NumberedSet}
use Rattle.merge_set_table.specs.Once.{IsEachOnce, is_among}
use Rattle.merge_set_table.specs.Table.{Numbered, IsOwnField}

-- Under a type, the selections have these own fields, and spread these fragments. The sets below fields are stored.
pub data Represents {S C : Type 0} (schema : Catalog S C) (numbers : List ℕ → Option ℕ) (m : Numbered S C) : Option
    (MetaTypeOf S C) → List (Selection S) → List OwnField → List ℕ → Type 0 where
  nothing : {p : Option (MetaTypeOf S C)} → Represents schema numbers m p [] [] []
  join : {p : Option (MetaTypeOf S C)} {xs ys : List (Selection S)} {own own' : List OwnField} {to to' : List ℕ}
      → Represents schema numbers m p xs own to → Represents schema numbers m p ys own' to'
      → Represents schema numbers m p (xs ++ ys) (own ++ own') (to ++ to')
  leaf : {p : Option (MetaTypeOf S C)} (f : Placed (Field S)) (a : OwnField) → IsOwnField m (entry_under p f) a
      → f.item.selection_set ≡ None → a.below ≡ None
      → Represents schema numbers m p (selection.Field f ∷ []) (a ∷ []) []
  field : {p : Option (MetaTypeOf S C)} (f : Placed (Field S)) (a : OwnField) (w : Vec (Selection S) Global) (n : ℕ)
      (row : NumberedSet) (to : List ℕ)
      → IsOwnField m (entry_under p f) a → f.item.selection_set ≡ Some w → a.below ≡ Some n
      → slice_get m.sets n ≡ Some row → IsEachOnce to row.spreads.items
      → Represents schema numbers m (type_below schema (entry_under p f)) w.items row.own.items to
      → Represents schema numbers m p (selection.Field f ∷ []) (a ∷ []) []
  spread : {p : Option (MetaTypeOf S C)} (s : Placed (FragmentSpread S)) (g : ℕ) → numbers s.item.name.item.now ≡ Some g
      → Represents schema numbers m p (selection.FragmentSpread s ∷ []) [] (g ∷ [])
  unknown : {p : Option (MetaTypeOf S C)} (s : Placed (FragmentSpread S)) → numbers s.item.name.item.now ≡ None
      → Represents schema numbers m p (selection.FragmentSpread s ∷ []) [] []
  inline : {p : Option (MetaTypeOf S C)} (i : Placed (InlineFragment S)) (own : List OwnField) (to to' : List ℕ)
      → ((x : ℕ) → is_among to' x ≡ is_among to x)
      → Represents schema numbers m (type_inside schema p i.item.type_condition) i.item.selection_set.items own to
      → Represents schema numbers m p (selection.InlineFragment i ∷ []) own to'

-- The set of the number is that of the selections under the type.
pub record IsSetOf {S C : Type 0} (schema : Catalog S C) (numbers : List ℕ → Option ℕ) (m : Numbered S C) (n : ℕ)
    (p : Option (MetaTypeOf S C)) (set : List (Selection S)) : Type 0 where
  pub row : NumberedSet
  pub to : List ℕ
  pub stored : slice_get m.sets n ≡ Some row
  pub once : IsEachOnce to row.spreads.items
  pub represents : Represents schema numbers m p set row.own.items to
