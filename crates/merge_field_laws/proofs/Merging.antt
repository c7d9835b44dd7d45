-- Merging of two fields in either order, where no object is asked for both, and of a field with itself.
use Rattle.std.proofs.Common.{◌≡◌, ℕ, List, [], Bool, true, false, cond, Option, Some, slice_get, refl, sym, ap, subst, ◌∙◌, ◌⊎◌, inl, inr, arith}
use Rattle.std.specs.Prelude.{⊤}
use Rattle.std.specs.Cmp.{IsEquivalence}
use Rattle.std.specs.List.{Contains}
use Rattle.std.proofs.lemmas.Bool.{cases_eq}
use Rattle.std.proofs.lemmas.Slice.Eq.{bytes_eq-Decides}
use Rattle.std.specs.declared.vec.Vec.{Vec}
use Rattle.std.specs.declared.alloc.Global.{Global}
use Rattle.language.specs.declared.tree.Selection.{Selection}
use Rattle.language.specs.declared.tree.Selection.TheVariants as selection
use Rattle.language.specs.declared.tree.Field.{Field}
use Rattle.language.specs.declared.tree.Definition.{Definition}
use Rattle.language.specs.declared.tree.Definition.TheVariants as definition
use Rattle.meta.specs.declared.kinds.MetaTypeOf.{MetaTypeOf}
use Rattle.schema.specs.Catalog.{Catalog}
use Rattle.fragment_graph.specs.Numbers.{IsNamed}
use Rattle.fragment_graph.specs.Spreads.{PlacedSpreads, placed_spreads_of_all, spreads_named}
use Rattle.fragment_graph.specs.DocumentCycles.{NameSpreads, HasNoCycle}
use Rattle.fragment_graph.proofs.Lists.{same_item, contains_at, contains_get}
use Rattle.merge_field_pairs.specs.Entries.{PlainEntry, IsTidy, exclusive_of}
use Rattle.merge_field_pairs.specs.OwnFields.{Placed, entry_under, type_inside, type_below, own_fields, own_spreads}
use Rattle.merge_field_pairs.proofs.DirectLaws.{Le, up_to_true, from_false, direct_up, direct_flip, direct_self, exclusive_up, exclusive_flip}
use Rattle.merge_set_table.specs.Inside.{IsInside, itself, below_field}
use Rattle.merge_graph.specs.Definitions.{type_round, selections_of, IsLast}
use Rattle.merge_graph.specs.SetsIn.{IsSetIn, IsFieldIn, IsNodeIn, HasKnownConditions}
use Rattle.merge_graph.proofs.Renumbering.{in_flat, spreads_inside}
use Rattle.merge_document.specs.WrittenOut.{IsFragment, Stands, own, spread, StandsIn, Apart, own_own, own_spread, spread_own, two_spreads, one_spread}
use Rattle.merge_document.specs.Merging.{Below, below, Merges, merges, SetMerges, DocumentMerges}
use Rattle.merge_document.specs.Conflicts.{IsTidyDocument}
use Rattle.merge_field_laws.specs.Laws.{IsBelow, next, deeper}
use Rattle.merge_field_laws.proofs.NoCycle.{spread_induction}
use Rattle.merge_field_laws.proofs.Inside.{own_induction, same_inside, placed}

module _ {S : Type 0} (document : List (Definition S)) where
  one_last : {name other : List ℕ} {p q : ℕ} → name ≡ other → (l : IsLast document name p) (r : IsLast document other q) → l.is ≡ r.is
  one_last {p = p} {q = q} e l r =
      let a = l.last q r.is r.stands (subst (λ n. IsNamed n r.is) (sym e) r.named) in let b = r.last p l.is l.stands (subst (λ n. IsNamed n l.is) e l.named) in
      let same : p ≡ q = omega (arith, a, b) in
      same_item l.is r.is (slice_get document q) (subst (λ (k : ℕ). slice_get document k ≡ Some l.is) same l.stands) r.stands

  spreads_all : (name : List ℕ) (d : Definition S) → IsNamed name d → spreads_named name d ≡ placed_spreads_of_all (selections_of d)
  spreads_all name (definition.Operation o) h = absurd h
  spreads_all name (definition.Fragment f) h = ap (λ t. cond t (placed_spreads_of_all f.item.selection_set.items) []) ((bytes_eq-Decides f.item.name.item.now name).1 h)

module _ {S C : Type 0} (schema : Catalog S C) (document : List (Definition S)) where
  fragment_set : {name : List ℕ} {d : Definition S} → IsFragment schema document name d → Contains document d
  fragment_set f = subst (Contains document) f.same (contains_at document f.place (f.last).is (f.last).stands)

  one_fragment : {name other : List ℕ} {c d : Definition S} → name ≡ other → IsFragment schema document name c → IsFragment schema document other d → c ≡ d
  one_fragment e f g = sym f.same ∙ one_last document e f.last g.last ∙ g.same

  -- what a set in a fragment spreads, the fragment spreads
  fragment_spreads : {name other : List ℕ} {d : Definition S} {p : Option (MetaTypeOf S C)} {set : List (Selection S)} → IsFragment schema document name d
      → IsInside schema (type_round schema d) (selections_of d) p set → Contains (own_spreads set) other → NameSpreads document name other
  fragment_spreads {name} {other} {d} {p} {set} f i c =
      let x = placed set other c in
      let named = subst (IsNamed name) f.same (f.last).named in
      let at = subst (λ z. slice_get document f.place ≡ Some z) f.same (f.last).stands in
      (x.0, in_flat (spreads_named name) document f.place d x.0 at (subst (λ (zs : PlacedSpreads). Contains zs x.0) (sym (spreads_all document name d named)) (spreads_inside schema i x.0 x.1)), x.2)

  -- whatever type the fields of a set have that a walk enters
  abbrev AnyTypes : Option (MetaTypeOf S C) → Option (MetaTypeOf S C) → Type 0
  AnyTypes p q = ⊤

  own_in_document : (p : Option (MetaTypeOf S C)) {q : Option (MetaTypeOf S C)} {set : List (Selection S)} {a : PlainEntry S C} → IsSetIn schema document q set → Contains (own_fields schema p set) a → IsNodeIn schema document a
  own_in_document p {q} {set} {a} i c =
      own_induction schema (type_round schema i.0) (selections_of i.0) AnyTypes (λ p q f r. tt) (λ p q set f i c r. tt) (IsNodeIn schema document)
      (λ p q inner f r inside at rest. (q, inner, (i.0, i.1, inside), at)) p q set tt i.2 a c

  stands_in_document : {p q : Option (MetaTypeOf S C)} {set : List (Selection S)} {a : PlainEntry S C} → IsSetIn schema document q set → Stands schema document p set a → IsNodeIn schema document a
  stands_in_document {p} i (own c) = own_in_document p i c
  stands_in_document i (spread {d = d} v f h) = stands_in_document (d, fragment_set f, itself) h

  node_of : {a : PlainEntry S C} → IsFieldIn schema document a → IsNodeIn schema document a
  node_of (p, set, i, c, is) = (p, set, i, c)

  set_below : (a : PlainEntry S C) {w : Vec (Selection S) Global} → IsNodeIn schema document a → a.field.item.selection_set ≡ Some w → (q : Option (MetaTypeOf S C)) × IsSetIn schema document q w.items
  set_below a {w} (p, set, i, c) e = (type_below schema (entry_under p a.field), (i.0, i.1, below_field a.field w i.2 c e))

  -- where conditions are known the own fields are the document's under their types, and so are the sets below them
  module _ (known : HasKnownConditions schema document) where
    known_own : {p : Option (MetaTypeOf S C)} {set : List (Selection S)} {a : PlainEntry S C} → IsSetIn schema document p set → Contains (own_fields schema p set) a → IsFieldIn schema document a
    known_own {p} {set} {a} i c =
        own_induction schema (type_round schema i.0) (selections_of i.0) (λ p q. p ≡ q) (λ p q f r. ap (λ z. type_below schema (entry_under z f)) r)
        (λ p q inner f inside at r. ap (λ z. type_inside schema z f.item.type_condition) r ∙ same_inside schema q f.item.type_condition (known i.0 i.1 q inner inside f at))
        (IsFieldIn schema document)
        (λ p q inner f r inside at rest. (p, inner, subst (λ z. IsSetIn schema document z inner) (sym r) (i.0, i.1, inside), at, refl)) p p set refl i.2 a c

    known_stands : {p : Option (MetaTypeOf S C)} {set : List (Selection S)} {a : PlainEntry S C} → IsSetIn schema document p set → Stands schema document p set a → IsFieldIn schema document a
    known_stands i (own c) = known_own i c
    known_stands i (spread {d = d} v f h) = known_stands (d, fragment_set f, itself) h

    known_below : {a : PlainEntry S C} {w : Vec (Selection S) Global} → IsFieldIn schema document a → a.field.item.selection_set ≡ Some w → IsSetIn schema document (type_below schema a) w.items
    known_below {a} {w} (p, set, i, c, is) e =
        (i.0, i.1, subst (λ z. IsInside schema (type_round schema i.0) (selections_of i.0) (type_below schema z) w.items) (sym is) (below_field a.field w i.2 c e))

    sets_below : {a : PlainEntry S C} {p : Option (MetaTypeOf S C)} {set : List (Selection S)} → IsFieldIn schema document a → IsBelow schema document a p set → IsSetIn schema document p set
    sets_below i (next e) = known_below i e
    sets_below i (deeper e h b) = sets_below (known_stands (known_below i e) h) b

  -- two fields that stand in a set stand at two places, or are one
  within : {p : Option (MetaTypeOf S C)} {set : List (Selection S)} {a b : PlainEntry S C} → Stands schema document p set a → Stands schema document p set b → (a ≡ b) ⊎ Apart schema document p set a b
  within {p} {set} {a} {b} (own c) (own d) =
      let k = contains_get (own_fields schema p set) a c in let l = contains_get (own_fields schema p set) b d in
      elim (cases_eq k.0 l.0) [
        | inl e ↦ inl (same_item a b (slice_get (own_fields schema p set) l.0) (subst (λ (j : ℕ). slice_get (own_fields schema p set) j ≡ Some a) e k.1) l.1)
        | inr other ↦ inr (own_own k.1 l.1 other)
      ]
  within (own c) (spread {d = d} v f h) = inr (own_spread c v (d, f, h))
  within (spread {d = d} v f h) (own c) = inr (spread_own v (d, f, h) c)
  within {p} {set} {a} {b} (spread {name = n} {d = d} v f h) (spread {name = m} {d = q} u g i) =
      let k = contains_get (own_spreads set) n v in let l = contains_get (own_spreads set) m u in
      elim (cases_eq k.0 l.0) [
        | inl e ↦ (let one : n ≡ m = same_item n m (slice_get (own_spreads set) l.0) (subst (λ (j : ℕ). slice_get (own_spreads set) j ≡ Some n) e k.1) l.1 in
            elim (within h (subst (λ z. Stands schema document (type_round schema z) (selections_of z) b) (sym (one_fragment one f g)) i)) [
              | inl same ↦ inl same
              | inr apart ↦ inr (one_spread v f apart)
            ])
        | inr other ↦ inr (two_spreads k.1 l.1 other (d, f, h) (q, g, i))
      ]

  module _ (E : S → S → Bool) where
    merges_up : {e e' : Bool} {a b : PlainEntry S C} → Le e e' → Merges E schema document e a b → Merges E schema document e' a b
    merges_up {e} {e'} {a} {b} le (merges pass below_merge) =
        merges (direct_up E schema e e' a b le pass) (λ c d h. merges_up (exclusive_up e e' a b le) (below_merge c d h))

    -- without the flag two fields merge with it, too
    pub where_exclusive : (a b : PlainEntry S C) → Merges E schema document false a b → Merges E schema document true a b
    where_exclusive a b m = merges_up (up_to_true false) m

    below_flip : {a b c d : PlainEntry S C} → Below E schema document b a c d → Below E schema document a b d c
    below_flip (below sv sw p q same) = below sw sv q p (sym same)

    below_in : {a b c d : PlainEntry S C} → IsNodeIn schema document a → IsNodeIn schema document b → Below E schema document a b c d → IsNodeIn schema document c × IsNodeIn schema document d
    below_in {a} {b} i j (below sv sw p q same) = (stands_in_document (set_below a i sv).1 p, stands_in_document (set_below b j sw).1 q)

    module _ (laws : IsEquivalence E) (tidy : IsTidyDocument schema document) where
      tidy_node : (a : PlainEntry S C) → IsNodeIn schema document a → IsTidy a
      tidy_node a (p, set, i, c) = tidy (entry_under p a.field) (p, set, i, c, refl)

      flip : {e e' : Bool} {a b : PlainEntry S C} → e ≡ e' → IsNodeIn schema document a → IsNodeIn schema document b → Merges E schema document e a b → Merges E schema document e' b a
      flip {e} {e'} {a} {b} same i j (merges pass below_merge) =
          subst (λ (x : Bool). Merges E schema document x b a) same
          (merges (direct_flip E schema laws e b a (tidy_node b j) (tidy_node a i) pass)
          (λ c d h. let both = below_in j i h in flip (exclusive_flip e b a) both.1 both.0 (below_merge d c (below_flip h))))

      -- in either order
      pub either_order : (e : Bool) (a b : PlainEntry S C) → IsFieldIn schema document a → IsFieldIn schema document b → Merges E schema document e a b → Merges E schema document e b a
      either_order e a b i j m = flip refl (node_of i) (node_of j) m

      abbrev Self : PlainEntry S C → Type 0
      Self a = ((p : Option (MetaTypeOf S C)) (set : List (Selection S)) → IsBelow schema document a p set → SetMerges E schema document p set) → (e : Bool) → Merges E schema document e a a

      self_one : (a : PlainEntry S C) → IsNodeIn schema document a
          → ((w : Vec (Selection S) Global) → a.field.item.selection_set ≡ Some w → (b : PlainEntry S C) → Stands schema document (type_below schema a) w.items b → Self b)
          → Self a
      self_one a i each all e = merges (direct_self E schema laws e a (tidy_node a i)) (λ c d h. pair h)
        where
          pair : {c d : PlainEntry S C} → Below E schema document a a c d → Merges E schema document (exclusive_of e a a) c d
          pair {c} {d} (below {v = v} {w = w} sv sw p q same) =
              elim (within p (subst (λ (u : Vec (Selection S) Global). Stands schema document (type_below schema a) u.items d) (same_item w v a.field.item.selection_set sw sv) q)) [
                | inl one ↦ subst (λ z. Merges E schema document (exclusive_of e a a) c z) one (each v sv c p (λ r set b. all r set (deeper sv p b)) (exclusive_of e a a))
                | inr apart ↦ merges_up (from_false (exclusive_of e a a)) (all (type_below schema a) v.items (next sv) c d apart same)
              ]

      -- each field of the written-out fragment
      abbrev SelfIn : List ℕ → Type 0
      SelfIn name = (a : PlainEntry S C) → StandsIn schema document name a → Self a

      module _ (d : Definition S) (there : Contains document d)
          (known : (p : Option (MetaTypeOf S C)) (set : List (Selection S)) → IsInside schema (type_round schema d) (selections_of d) p set → (name : List ℕ) → Contains (own_spreads set) name → SelfIn name) where
        own_self : (p q : Option (MetaTypeOf S C)) (set : List (Selection S)) (f : Placed (Field S)) → AnyTypes p q → IsInside schema (type_round schema d) (selections_of d) q set → Contains set (selection.Field f)
            → ((w : Vec (Selection S) Global) → f.item.selection_set ≡ Some w → (a : PlainEntry S C) → Contains (own_fields schema (type_below schema (entry_under p f)) w.items) a → Self a)
            → Self (entry_under p f)
        own_self p q set f r i c rest = self_one (entry_under p f) (q, set, (d, there, i), c) (λ w e b h. of_below w e h)
          where
            of_below : (w : Vec (Selection S) Global) → f.item.selection_set ≡ Some w → {b : PlainEntry S C} → Stands schema document (type_below schema (entry_under p f)) w.items b → Self b
            of_below w e {b} (own h) = rest w e b h
            of_below w e {b} (spread {name = n} {d = k} v g h) = known (type_below schema (entry_under q f)) w.items (below_field f w i c e) n v b (k, g, h)

        set_self : {p q : Option (MetaTypeOf S C)} {set : List (Selection S)} {a : PlainEntry S C} → IsInside schema (type_round schema d) (selections_of d) q set → Stands schema document p set a → Self a
        set_self {p} {q} {set} {a} i (own c) =
            own_induction schema (type_round schema d) (selections_of d) AnyTypes (λ p q f r. tt) (λ p q set f i c r. tt) Self own_self p q set tt i a c
        set_self {p} {q} {set} {a} i (spread {name = n} {d = k} v g h) = known q set i n v a (k, g, h)

      module _ (clean : HasNoCycle document) where
        fragment_self : (name : List ℕ) → SelfIn name
        fragment_self = spread_induction document clean SelfIn (λ name rest a h.
            set_self h.0 (fragment_set h.1) (λ p set i other c. rest other (fragment_spreads h.1 i c)) itself h.2)

        -- a field with itself, where the sets below it merge
        pub with_itself : (a : PlainEntry S C) → IsFieldIn schema document a → Self a
        with_itself a i = self_one a (node_of i) (λ w e b h.
            let set = (set_below a (node_of i) e).1 in set_self set.0 set.1 (λ p inner j name c. fragment_self name) set.2 h)

        pub each_with_itself : HasKnownConditions schema document → DocumentMerges E schema document → (a : PlainEntry S C) → IsFieldIn schema document a → (e : Bool) → Merges E schema document e a a
        each_with_itself known all a i = with_itself a i (λ p set b. all p set (sets_below known i b))
