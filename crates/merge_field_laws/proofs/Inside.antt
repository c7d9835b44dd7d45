-- What stands in the sets of a document is the document's.
use Rattle.std.proofs.Common.{◌≡◌, ℕ, List, [], ◌∷◌, Option, Some, None, slice_get, refl, sym, ap, subst, ◌∙◌}
use Rattle.std.specs.List.{Contains, flat_map}
use Rattle.std.specs.Option.{option_or}
use denote.Ref.{Bor}
use Rattle.std.specs.declared.vec.Vec.{Vec}
use Rattle.std.specs.declared.alloc.Global.{Global}
use Rattle.language_values.specs.Each.{Each, EachIfThere}
use Rattle.language.proofs.Induction.{selection_induction}
use Rattle.language_values.proofs.Members.{Each-In}
use Rattle.language.specs.declared.tree.Selection.{Selection}
use Rattle.language.specs.declared.tree.Selection.TheVariants as selection
use Rattle.language.specs.declared.tree.Field.{Field}
use Rattle.language.specs.declared.tree.FragmentSpread.{FragmentSpread}
use Rattle.language.specs.declared.tree.InlineFragment.{InlineFragment}
use Rattle.meta.specs.declared.kinds.MetaTypeOf.{MetaTypeOf}
use Rattle.schema.specs.Catalog.{Catalog}
use Rattle.fragment_graph.specs.Spreads.{PlacedSpread, placed_spreads_of, placed_spreads_of_all}
use Rattle.fragment_graph.proofs.Lists.{contains_at, contains_get, contains_none, contains_one, one_contains, same_some, none_some}
use Rattle.fragment_graph.proofs.NamePaths.{flat_get}
use Rattle.fragment_graph.proofs.Placed.{placed-Spread, placed-Inline}
use Rattle.merge_field_pairs.specs.Entries.{PlainEntry}
use Rattle.merge_field_pairs.specs.OwnFields.{Placed, entry_under, type_inside, type_below, own_fields_of, own_fields, own_spreads_of, own_spreads}
use Rattle.merge_field_pairs.proofs.OwnFieldLaws.{own_fields_of-Field, own_fields_of-Spread, own_fields_of-Inline, own_spreads_of-Field, own_spreads_of-Spread, own_spreads_of-Inline}
use Rattle.merge_set_table.specs.Inside.{type_entered, IsInside, below_field, of_inline, IsConditionKnown}
use Rattle.merge_graph.proofs.Renumbering.{in_flat}
use Rattle.merge_field_laws.proofs.NoCycle.{at_in}

-- a member of lists one behind the other is one of some list
pub in_some : {X Y : Type 0} (f : X → List Y) (xs : List X) (y : Y) → Contains (flat_map f xs) y → (x : X) × ((k : ℕ) × (slice_get xs k ≡ Some x)) × Contains (f x) y
in_some f xs y c =
    let k = contains_get (flat_map f xs) y c in let r = flat_get f xs k.0 y k.1 in
    (r.0, r.1, contains_at (f r.0) r.2.0 y r.2.1)

module _ {S C : Type 0} (schema : Catalog S C) (root : Option (MetaTypeOf S C)) (whole : List (Selection S)) where
  abbrev In : Option (MetaTypeOf S C) → List (Selection S) → Type 0
  In p set = IsInside schema root whole p set

  -- R is what the types of own fields have to do with those under which a walk enters their sets.
  module _ (R : Option (MetaTypeOf S C) → Option (MetaTypeOf S C) → Type 0)
      (in_field : (p q : Option (MetaTypeOf S C)) (f : Placed (Field S)) → R p q → R (type_below schema (entry_under p f)) (type_below schema (entry_under q f)))
      (in_inline : (p q : Option (MetaTypeOf S C)) (set : List (Selection S)) (f : Placed (InlineFragment S)) → In q set → Contains set (selection.InlineFragment f) → R p q
      → R (type_inside schema p f.item.type_condition) (type_entered schema q f.item.type_condition))
      (P : PlainEntry S C → Type 0)
      (step : (p q : Option (MetaTypeOf S C)) (set : List (Selection S)) (f : Placed (Field S)) → R p q → In q set → Contains set (selection.Field f)
      → ((w : Vec (Selection S) Global) → f.item.selection_set ≡ Some w → (a : PlainEntry S C) → Contains (own_fields schema (type_below schema (entry_under p f)) w.items) a → P a)
      → P (entry_under p f)) where
    -- the own fields of the selection, wherever it stands
    abbrev Holds : Selection S → Type 0
    Holds s = (p q : Option (MetaTypeOf S C)) (set : List (Selection S)) → R p q → In q set → Contains set s → (a : PlainEntry S C) → Contains (own_fields_of schema p s) a → P a

    of_set : (p q : Option (MetaTypeOf S C)) (set : List (Selection S)) → R p q → In q set → Each Holds set → (a : PlainEntry S C) → Contains (own_fields schema p set) a → P a
    of_set p q set r i each a c =
        let s = in_some (own_fields_of schema p) set a c in
        Each-In Holds set s.0 each (at_in set s.1.0 s.0 s.1.1) p q set r i (contains_at set s.1.0 s.0 s.1.1) a s.2

    set_there : (o : Option (Vec (Selection S) Global)) (w : Vec (Selection S) Global) → o ≡ Some w → EachIfThere Holds o → Each Holds w.items
    set_there None w e each = absurd (none_some w e)
    set_there (Some v) w e each = subst (λ (u : Vec (Selection S) Global). Each Holds u.items) (same_some v w e) each

    of_field : (f : Placed (Field S)) → EachIfThere Holds f.item.selection_set → Holds (selection.Field f)
    of_field f each p q set r i c a h =
        subst P (contains_one (entry_under p f) a (subst (λ z. Contains z a) (own_fields_of-Field schema p f) h))
        (step p q set f r i c (λ w e. of_set (type_below schema (entry_under p f)) (type_below schema (entry_under q f)) w.items (in_field p q f r) (below_field f w i c e) (set_there f.item.selection_set w e each)))

    of_spread : (s : Placed (FragmentSpread S)) → Holds (selection.FragmentSpread s)
    of_spread s p q set r i c a h = absurd (contains_none a (subst (λ z. Contains z a) (own_fields_of-Spread schema p s) h))

    of_inline_fragment : (f : Placed (InlineFragment S)) → Each Holds f.item.selection_set.items → Holds (selection.InlineFragment f)
    of_inline_fragment f each p q set r i c a h =
        of_set (type_inside schema p f.item.type_condition) (type_entered schema q f.item.type_condition) f.item.selection_set.items (in_inline p q set f i c r) (of_inline f i c) each a
        (subst (λ z. Contains z a) (own_fields_of-Inline schema p f) h)

    each_holds : (set : List (Selection S)) → Each Holds set
    each_holds [] = tt
    each_holds (s ∷ set) = (selection_induction Holds of_field of_spread of_inline_fragment s, each_holds set)

    -- what holds of a field where it holds of the own fields below it holds of all own fields
    pub own_induction : (p q : Option (MetaTypeOf S C)) (set : List (Selection S)) → R p q → In q set → (a : PlainEntry S C) → Contains (own_fields schema p set) a → P a
    own_induction p q set r i = of_set p q set r i (each_holds set)

-- where the condition is known a walk enters the set under the type of its fields
pub same_inside : {S C : Type 0} (schema : Catalog S C) (p : Option (MetaTypeOf S C)) (condition : Option (Placed (Bor (List ℕ)))) → IsConditionKnown schema condition
    → type_inside schema p condition ≡ type_entered schema p condition
same_inside schema p None known = refl
same_inside schema p (Some name) known = let (m, is) = known name refl in ap (λ r. option_or r p) is ∙ sym is

module _ {S : Type 0} where
  -- the names that a selection spreads itself are spread at some depth
  abbrev ArePlaced : Selection S → Type 0
  ArePlaced s = (name : List ℕ) → Contains (own_spreads_of s) name → (x : PlacedSpread) × Contains (placed_spreads_of s) x × (x.name ≡ name)

  all_placed : (set : List (Selection S)) → Each ArePlaced set → (name : List ℕ) → Contains (own_spreads set) name → (x : PlacedSpread) × Contains (placed_spreads_of_all set) x × (x.name ≡ name)
  all_placed set each name c =
      let s = in_some own_spreads_of set name c in
      let x = Each-In ArePlaced set s.0 each (at_in set s.1.0 s.0 s.1.1) name s.2 in
      (x.0, in_flat placed_spreads_of set s.1.0 s.0 x.0 s.1.1 x.1, x.2)

  field_placed : (f : Placed (Field S)) → EachIfThere ArePlaced f.item.selection_set → ArePlaced (selection.Field f)
  field_placed f each name c = absurd (contains_none name (subst (λ z. Contains z name) (own_spreads_of-Field f) c))

  spread_placed : (s : Placed (FragmentSpread S)) → ArePlaced (selection.FragmentSpread s)
  spread_placed s name c =
      let x : PlacedSpread = record { name = s.item.name.item.now; place = s.span.start } in
      (x, subst (λ z. Contains z x) (sym (placed-Spread (selection.FragmentSpread s) s refl)) (one_contains x), contains_one s.item.name.item.now name (subst (λ z. Contains z name) (own_spreads_of-Spread s) c))

  inline_placed : (f : Placed (InlineFragment S)) → Each ArePlaced f.item.selection_set.items → ArePlaced (selection.InlineFragment f)
  inline_placed f each name c =
      let x = all_placed f.item.selection_set.items each name (subst (λ z. Contains z name) (own_spreads_of-Inline f) c) in
      (x.0, subst (λ z. Contains z x.0) (sym (placed-Inline (selection.InlineFragment f) f refl)) x.1, x.2)

  each_placed : (set : List (Selection S)) → Each ArePlaced set
  each_placed [] = tt
  each_placed (s ∷ set) = (selection_induction ArePlaced field_placed spread_placed inline_placed s, each_placed set)

  pub placed : (set : List (Selection S)) (name : List ℕ) → Contains (own_spreads set) name → (x : PlacedSpread) × Contains (placed_spreads_of_all set) x × (x.name ≡ name)
  placed set = all_placed set (each_placed set)
