-- Where added sets and fields come from.
use Rattle.std.proofs.Common.{◌≡◌, ◌==◌, ℕ, ◌<◌, List, [], ◌++◌, length, get_or, map, Option, Some, slice_get, sym, ap, subst, ◌∙◌, arith, inl, inr}
use Rattle.std.specs.List.{Contains}
use Rattle.std.proofs.lemmas.List.{length-map}
use Rattle.std.proofs.lemmas.Option.{slice_get_within, slice_get-get_or}
use Rattle.std.proofs.lemmas.Bool.{cases_order, or_left, or_right, or_cases}
use Rattle.std.proofs.lemmas.List.Folds.{list_any-append}
use Rattle.language.specs.declared.tree.Selection.{Selection}
use Rattle.language.specs.declared.tree.Selection.TheVariants as selection
use Rattle.language.specs.declared.tree.Field.{Field}
use Rattle.meta.specs.declared.kinds.MetaTypeOf.{MetaTypeOf}
use Rattle.schema.specs.Catalog.{Catalog}
use Rattle.merge_field_pairs.specs.Entries.{PlainEntry, plain}
use Rattle.language.specs.declared.tree.InlineFragment.{InlineFragment}
use Rattle.std.specs.declared.vec.Vec.{Vec}
use Rattle.std.specs.declared.alloc.Global.{Global}
use Rattle.merge_field_pairs.specs.OwnFields.{Placed, entry_under, type_below}
use Rattle.merge_set_table.specs.declared.table.NumberedSet.{NumberedSet}
use Rattle.merge_set_table.specs.declared.table.Table.{Table}
use Rattle.merge_set_table.specs.Table.{numbered, Extends}
use Rattle.merge_set_table.specs.Once.{is_among}
use Rattle.merge_set_table.specs.Inside.{type_entered, IsInside, itself, below_field, of_inline, IsFieldInside, AreConditionsKnown, IsDeeper, of_field, of_fragment}
use Rattle.merge_set_table.specs.Adding.{FieldsFrom, ComesFrom, PushesField}
use Rattle.merge_set_table.proofs.Lists.{get_snoc}
use Rattle.merge_set_table.proofs.Representing.{set_more}

-- a field that was there stays
pub kept_field : {S C : Type 0} (t u : Table S C) → Extends (numbered t) (numbered u) → (k : ℕ) (a : PlainEntry S C) → k < length t.fields.items → slice_get (map plain u.fields.items) k ≡ Some a → slice_get (map plain t.fields.items) k ≡ Some a
kept_field t u e k a l h =
    let old = map plain t.fields.items in
    let there : slice_get old k ≡ Some (get_or old k a) = slice_get-get_or old k a (omega (arith, l, length-map t.fields.items plain)) in
    there ∙ sym (e.fields k (get_or old k a) there) ∙ h

module _ {S C : Type 0} (schema : Catalog S C) where
  -- inside what is inside
  pub inside_then : {p : Option (MetaTypeOf S C)} {set : List (Selection S)} {q : Option (MetaTypeOf S C)} {inner : List (Selection S)} {r : Option (MetaTypeOf S C)} {last : List (Selection S)} → IsInside schema p set q inner → IsInside schema q inner r last → IsInside schema p set r last
  inside_then i itself = i
  inside_then i (below_field f w j c e) = below_field f w (inside_then i j) c e
  inside_then i (of_inline f j c) = of_inline f (inside_then i j) c

  pub deeper_inside : {p : Option (MetaTypeOf S C)} {set : List (Selection S)} {q : Option (MetaTypeOf S C)} {inner : List (Selection S)} → IsDeeper schema p set q inner → IsInside schema p set q inner
  deeper_inside (of_field f w c e i) = inside_then (below_field f w itself c e) i
  deeper_inside (of_fragment f c i) = inside_then (of_inline f itself c) i

  pub deeper_in : {p q : Option (MetaTypeOf S C)} {inner : List (Selection S)} (xs ys : List (Selection S)) → ((x : Selection S) → Contains xs x → Contains ys x) → IsDeeper schema p xs q inner → IsDeeper schema p ys q inner
  deeper_in xs ys sub (of_field f w c e i) = of_field f w (sub (selection.Field f) c) e i
  deeper_in xs ys sub (of_fragment f c i) = of_fragment f (sub (selection.InlineFragment f) c) i

  -- a set inside is the set itself, or stands deeper
  pub data Front (p : Option (MetaTypeOf S C)) (set : List (Selection S)) : Option (MetaTypeOf S C) → List (Selection S) → Type 0 where
    here : Front p set p set
    there : {q : Option (MetaTypeOf S C)} {inner : List (Selection S)} → IsDeeper schema p set q inner → Front p set q inner

  pub front : {p : Option (MetaTypeOf S C)} {set : List (Selection S)} {q : Option (MetaTypeOf S C)} {inner : List (Selection S)} → IsInside schema p set q inner → Front p set q inner
  front itself = here
  front (below_field f w i c e) = next_below (front i) f w c e
    where
      next_below : {p : Option (MetaTypeOf S C)} {set : List (Selection S)} {q : Option (MetaTypeOf S C)} {inner : List (Selection S)} → Front p set q inner
          → (f : Placed (Field S)) (w : Vec (Selection S) Global) → Contains inner (selection.Field f) → f.item.selection_set ≡ Some w
          → Front p set (type_below schema (entry_under q f)) w.items
      next_below here f w c e = there (of_field f w c e itself)
      next_below (there (of_field g v d h j)) f w c e = there (of_field g v d h (below_field f w j c e))
      next_below (there (of_fragment g d j)) f w c e = there (of_fragment g d (below_field f w j c e))
  front (of_inline f i c) = next_inline (front i) f c
    where
      next_inline : {p : Option (MetaTypeOf S C)} {set : List (Selection S)} {q : Option (MetaTypeOf S C)} {inner : List (Selection S)} → Front p set q inner
          → (f : Placed (InlineFragment S)) → Contains inner (selection.InlineFragment f)
          → Front p set (type_entered schema q f.item.type_condition) f.item.selection_set.items
      next_inline here f c = there (of_fragment f c itself)
      next_inline (there (of_field g v d h j)) f c = there (of_field g v d h (of_inline f j c))
      next_inline (there (of_fragment g d j)) f c = there (of_fragment g d (of_inline f j c))

  pub field_inside_then : {p q : Option (MetaTypeOf S C)} {set inner : List (Selection S)} {a : PlainEntry S C} → IsInside schema p set q inner → IsFieldInside schema q inner a → IsFieldInside schema p set a
  field_inside_then i f = record { type = f.type; inner = f.inner; inside = inside_then i f.inside; stands = f.stands }

  pub known_inside : {p q : Option (MetaTypeOf S C)} {set inner : List (Selection S)} → IsInside schema p set q inner → AreConditionsKnown schema p set → AreConditionsKnown schema q inner
  known_inside i known r last j = known r last (inside_then i j)

  pub fields_inside : {p q : Option (MetaTypeOf S C)} {set inner : List (Selection S)} (t u : Table S C) → IsInside schema p set q inner → FieldsFrom schema q inner t u → FieldsFrom schema p set t u
  fields_inside t u i c k a l h = field_inside_then i (c k a l h)

  module _ (p : Option (MetaTypeOf S C)) (set : List (Selection S)) where
    -- no field was added
    pub fields_none : (t u : Table S C) → map plain u.fields.items ≡ map plain t.fields.items → FieldsFrom schema p set t u
    fields_none t u fields k a l h =
        let small = slice_get_within (map plain t.fields.items) k a (subst (λ xs. slice_get xs k ≡ Some a) fields h) in
        let long = length-map t.fields.items plain in
        absurd (omega (arith, l, small, long))

    -- one after the other
    pub fields_then : (s t u : Table S C) → Extends (numbered t) (numbered u) → FieldsFrom schema p set s t → FieldsFrom schema p set t u → FieldsFrom schema p set s u
    fields_then s t u e c d k a l h = elim (cases_order k (length t.fields.items)) [
      | inl eq ↦ d k a (omega (arith, eq)) h
      | inr o ↦ elim o [
        | inl lt ↦ c k a l (kept_field t u e k a lt h)
        | inr gt ↦ d k a (omega (arith, gt)) h
      ]
    ]

    -- one field was added
    pub fields_pushed : (q : Option (MetaTypeOf S C)) (whole : List (Selection S)) (f : Placed (Field S)) (o : PlainEntry S C) (below : Option ℕ) (a b : NumberedSet) (t u : Table S C)
        → IsInside schema p set q whole → Contains whole (selection.Field f) → o.field ≡ f → PushesField o below a b t u → FieldsFrom schema p set t u
    fields_pushed q whole f o below a b t u i c is pushed k x l h =
        let long = length-map t.fields.items plain in
        elim (get_snoc (map plain t.fields.items) o k x (subst (λ xs. slice_get xs k ≡ Some x) pushed.fields h)) [
          | inl old ↦ (let small = slice_get_within (map plain t.fields.items) k x old in absurd (omega (arith, l, small, long)))
          | inr last ↦ record { type = q; inner = whole; inside = i; stands = subst (λ z. Contains whole (selection.Field z)) (sym (ap (λ y. y.field) last.1 ∙ is)) c }
        ]

  module _ (numbers : List ℕ → Option ℕ) where
    pub comes_inside : {p q : Option (MetaTypeOf S C)} {set inner : List (Selection S)} {more : List ℕ} (t u : Table S C) → IsInside schema p set q inner → ComesFrom schema numbers q inner more t u → ComesFrom schema numbers p set more t u
    comes_inside t u i c = record {
      sets = λ k l. let (r, last, j, is) = c.sets k l in (r, last, inside_then i j, is);
      fields = fields_inside t u i c.fields;
      whole = λ known. c.whole (known_inside i known);
    }

    module _ (p : Option (MetaTypeOf S C)) (set : List (Selection S)) where
      -- nothing was added
      pub comes_none : (t u : Table S C) → u.sets.items ≡ t.sets.items → FieldsFrom schema p set t u → ComesFrom schema numbers p set [] t u
      comes_none t u sets fields = record {
        sets = λ k l. cc;
        fields = fields;
        whole = λ known k l h. let e = ap length sets in absurd (omega (arith, l, h, e));
      }

      -- one after the other
      pub comes_then : (ms ns : List ℕ) (s t u : Table S C) → Extends (numbered t) (numbered u) → ComesFrom schema numbers p set ms s t → ComesFrom schema numbers p set ns t u → ComesFrom schema numbers p set (ms ++ ns) s u
      comes_then ms ns s t u e c d = record {
        sets = λ k l. elim (or_cases (is_among ms k) (is_among ns k) (sym (list_any-append (λ y. y == k) ms ns) ∙ l)) [
          | inl h ↦ (let (q, inner, i, is) = c.sets k h in (q, inner, i, set_more schema numbers e is))
          | inr h ↦ d.sets k h
        ];
        fields = fields_then p set s t u e c.fields d.fields;
        whole = λ known k l h. list_any-append (λ y. y == k) ms ns ∙ elim (cases_order k (length t.sets.items)) [
          | inl eq ↦ or_right (is_among ms k) (is_among ns k) (d.whole known k (omega (arith, eq)) h)
          | inr o ↦ elim o [
            | inl lt ↦ or_left (is_among ms k) (is_among ns k) (c.whole known k l lt)
            | inr gt ↦ or_right (is_among ms k) (is_among ns k) (d.whole known k (omega (arith, gt)) h)
          ]
        ];
      }
