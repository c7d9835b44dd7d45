-- A set that was begun, filled and stored.
use Rattle.std.proofs.Common.{◌≡◌, ◌==◌, ℕ, ◌+◌, List, [], ◌∷◌, ◌++◌, length, map, Option, Some, slice_get, refl, sym, ap, subst, ◌∙◌, arith, inl, inr, true, append_assoc, length-append}
use Rattle.std.specs.List.{All}
use Rattle.std.proofs.Math.Seq.{set-append_seam}
use Rattle.std.proofs.Math.ListN.{set}
use Rattle.std.proofs.lemmas.List.{length-map}
use Rattle.std.proofs.lemmas.Bool.{cases_order, or_left, or_right, or_cases, eq-eqb, eqb-true}
use Rattle.language.specs.declared.tree.Selection.{Selection}
use Rattle.meta.specs.declared.kinds.MetaTypeOf.{MetaTypeOf}
use Rattle.schema.specs.Catalog.{Catalog}
use Rattle.merge_field_pairs.specs.Entries.{plain}
use Rattle.merge_set_table.specs.declared.table.NumberedSet.{NumberedSet}
use Rattle.merge_set_table.specs.declared.table.Table.{Table}
use Rattle.merge_set_table.specs.Names.{KeepsNames, AreApart}
use Rattle.merge_set_table.specs.Once.{is_among}
use Rattle.merge_set_table.specs.Table.{numbered, Numbered, Extends, IsWithin, Falling}
use Rattle.merge_set_table.specs.Represents.{Represents, IsSetOf}
use Rattle.merge_set_table.specs.Inside.{IsInside, itself}
use Rattle.merge_set_table.specs.Adding.{AreWithin, IsEmptySet, OpensSet, StoresSet, ClosesSet, FieldsFrom, ComesFrom, Keeps, AddsParts, HasSet, AddsFor, AddsSetFor, IsHeld, Adds, AddsSet}
use Rattle.merge_set_table.proofs.Lists.{get_more, get_last, All-among}
use Rattle.merge_set_table.proofs.Representing.{extends_self, extends_then, represents_more, set_more}
use Rattle.merge_set_table.specs.Parts.{IsPartOf}
use Rattle.merge_set_table.specs.Nesting.{inner_measure}
use Rattle.merge_set_table.proofs.Nesting.{nests_set}
use Rattle.merge_set_table.proofs.Partial.{part_itself}
use Rattle.merge_set_table.proofs.Building.{Low, low_more, within_more, falling_push, keeps_then}
use Rattle.merge_set_table.proofs.Origins.{deeper_inside, front, Front, here, there}

module _ {S C : Type 0} where
  stored_extends : (part : NumberedSet) (n : ℕ) (t u : Table S C) → StoresSet part n t u → Extends (numbered t) (numbered u)
  stored_extends part n t u c = record {
    fields = λ k a h. subst (λ fs. slice_get (map plain fs) k ≡ Some a) (sym c.fields) h;
    responses = subst (λ ns. KeepsNames t.responses ns) (sym c.responses) (λ name k h. h);
    sets = λ k r h. subst (λ ss. slice_get ss k ≡ Some r) (sym c.sets) (get_more t.sets.items (c.row ∷ []) k r h);
    longer = omega (arith, ap length c.sets, length-append t.sets.items (c.row ∷ []));
  }

  module _ (schema : Catalog S C) (numbers : List ℕ → Option ℕ) (p : Option (MetaTypeOf S C)) (selections : List (Selection S)) where
    -- a set that was filled and stored
    module _ (n : ℕ) (empty part : NumberedSet) (t1 t2 t3 : Table S C) (none : IsEmptySet empty) (added : AddsParts schema numbers p selections empty part t1 t2) (closed : StoresSet part n t2 t3) where
      extends_last : Extends (numbered t2) (numbered t3)
      extends_last = stored_extends part n t2 t3 closed

      own_is : part.own.items ≡ added.own_more
      own_is = added.own ∙ ap (λ z. z ++ added.own_more) none.own

      to_is : part.spreads.items ≡ added.to_more
      to_is = added.spreads ∙ ap (λ z. z ++ added.to_more) none.spreads

      row_own : closed.row.own.items ≡ added.own_more
      row_own = closed.own ∙ own_is

      stored : slice_get t3.sets.items n ≡ Some closed.row
      stored = subst (λ ss. slice_get ss n ≡ Some closed.row) (sym closed.sets) (subst (λ (k : ℕ). slice_get (t2.sets.items ++ closed.row ∷ []) k ≡ Some closed.row) (sym closed.number) (get_last t2.sets.items closed.row))

      represented : Represents schema numbers (numbered t3) p selections closed.row.own.items part.spreads.items
      represented =
          subst (λ z. Represents schema numbers (numbered t3) p selections z part.spreads.items) (sym row_own)
          (subst (λ z. Represents schema numbers (numbered t3) p selections added.own_more z) (sym to_is)
          (represents_more schema numbers extends_last added.represents))

      row_low : All (Low (length t2.sets.items)) closed.row.own.items
      row_low = subst (All (Low (length t2.sets.items))) (sym row_own) added.below

      row_within : (fragments : List ℕ) (bound : ℕ) → AreWithin numbers fragments bound → All (IsWithin fragments bound) closed.row.spreads.items
      row_within fragments bound w =
          All-among (IsWithin fragments bound) part.spreads.items closed.row.spreads.items (λ x h. sym (closed.once.same x) ∙ h)
          (subst (All (IsWithin fragments bound)) (sym to_is) (added.within fragments bound w))

      one_longer : length t3.sets.items ≡ length t2.sets.items + 1
      one_longer = ap length closed.sets ∙ length-append t2.sets.items (closed.row ∷ [])

      falls : (fragments : List ℕ) → AreWithin numbers fragments (length t1.sets.items) → Falling t1.sets.items fragments → Falling t3.sets.items fragments
      falls fragments w f =
          let f2 : Falling t2.sets.items fragments = added.keeps.falls fragments w f in
          subst (λ z. Falling z fragments) (sym closed.sets)
          (falling_push t2.sets.items closed.row fragments f2 row_low
          (row_within fragments (length t2.sets.items) (within_more numbers fragments _ _ added.keeps.extends.longer w)))

      has_set : HasSet schema numbers p selections n t1 t3
      has_set = record {
        is = record { row = closed.row; to = part.spreads.items; stored = stored; once = closed.once; represents = represented };
        own = low_more _ _ closed.row.own.items extends_last.longer row_low;
        within = row_within;
        keeps = record {
          extends = extends_then added.keeps.extends extends_last;
          apart = λ a. subst AreApart (sym closed.responses) (added.keeps.apart a);
          falls = falls;
        };
      }

      -- no field is new
      fields_as : (q : Option (MetaTypeOf S C)) (set : List (Selection S)) → FieldsFrom schema q set t1 t2 → FieldsFrom schema q set t1 t3
      fields_as q set f k a l h = f k a l (subst (λ fs. slice_get (map plain fs) k ≡ Some a) closed.fields h)

    pub adds_set_for : (n : ℕ) (empty part : NumberedSet) (t1 t2 t3 : Table S C) → IsEmptySet empty → AddsFor schema numbers p selections empty part t1 t2 → StoresSet part n t2 t3 → AddsSetFor schema numbers p selections n t1 t3
    adds_set_for n empty part t1 t2 t3 none added closed = record {
      has = has_set n empty part t1 t2 t3 none added.parts closed;
      order = closed.order ∙ added.order;
      from = λ q. fields_as n empty part t1 t2 t3 none added.parts closed q selections (added.from q q selections selections itself (λ x c. c));
    }

    same_extends : (t u : Table S C) → numbered u ≡ numbered t → Extends (numbered t) (numbered u)
    same_extends t u e = subst (λ m. Extends (numbered t) m) (sym e) (extends_self (numbered t))

    keeps_same : (t u : Table S C) → numbered u ≡ numbered t → Keeps numbers t u
    keeps_same t u e = record {
      extends = same_extends t u e;
      apart = λ a. subst AreApart (sym (ap (λ (m : Numbered S C). m.responses) e)) a;
      falls = λ fragments w f. subst (λ z. Falling z fragments) (sym (ap (λ (m : Numbered S C). m.sets) e)) f;
    }

    has_between : (n : ℕ) (s t u v : Table S C) → Keeps numbers s t → Keeps numbers u v → HasSet schema numbers p selections n t u → HasSet schema numbers p selections n s v
    has_between n s t u v first last h = record {
      is = record { row = h.is.row; to = h.is.to; stored = last.extends.sets n h.is.row h.is.stored; once = h.is.once; represents = represents_more schema numbers last.extends h.is.represents };
      own = low_more _ _ h.is.row.own.items last.extends.longer h.own;
      within = h.within;
      keeps = keeps_then schema numbers s t v first (keeps_then schema numbers t u v h.keeps last);
    }

    -- the same, where the set was begun with a place in the order
    module _ (place n : ℕ) (empty part : NumberedSet) (t t1 t2 t3 : Table S C)
        (opened : OpensSet place t t1) (none : IsEmptySet empty) (added : Adds schema numbers p selections empty part t1 t2) (closed : ClosesSet place part n t2 t3) where
      has : HasSet schema numbers p selections n t t3
      has = has_between n t t1 closed.middle t3 (keeps_same t t1 opened.same) (keeps_same closed.middle t3 closed.same)
          (has_set n empty part t1 t2 closed.middle none added.parts closed.stores)

      has_own : has.is.row.own.items ≡ part.own.items
      unfolding has has_between has_set
      has_own = closed.stores.own

      extends_end : Extends (numbered t2) (numbered t3)
      extends_end = extends_then (stored_extends part n t2 closed.middle closed.stores) (same_extends closed.middle t3 closed.same)

      abbrev more : List ℕ
      more = n ∷ added.more

      order_is : t3.order.items ≡ t.order.items ++ more
      order_is =
          closed.order
          ∙ ap (λ z. set z place n) (added.order ∙ ap (λ z. z ++ added.more) opened.order ∙ append_assoc t.order.items (0 ∷ []) added.more)
          ∙ ap (λ (k : ℕ). set (t.order.items ++ 0 ∷ added.more) k n) opened.at
          ∙ set-append_seam t.order.items 0 added.more n

      listed : is_among more n ≡ true
      listed = or_left _ (is_among added.more n) (eq-eqb n n refl)

      -- a part of the set itself
      held : (q : Option (MetaTypeOf S C)) (inner : List (Selection S)) → IsPartOf schema q inner p selections → IsHeld schema numbers t3 more (IsInside schema p selections) q inner
      held q inner h = record { number = n; among = listed; type = p; set = selections; is = has.is; stands = itself; part = h }

      found : (q : Option (MetaTypeOf S C)) (inner : List (Selection S)) → Front schema p selections q inner → IsHeld schema numbers t3 more (IsInside schema p selections) q inner
      found q inner here = held p selections (part_itself schema p selections)
      found q inner (there d) = elim (added.found q inner d) [
        | inl h ↦ record {
          number = h.number;
          among = or_right _ (is_among added.more h.number) h.among;
          type = h.type;
          set = h.set;
          is = set_more schema numbers extends_end h.is;
          stands = deeper_inside schema h.stands;
          part = h.part;
        }
        | inr h ↦ held q inner h
      ]

      -- from the set itself, and from what was added in it
      inner_from : ComesFrom schema numbers p selections added.more t1 t2
      inner_from = added.from p selections selections itself (λ x c. c)

      as_long : length t1.sets.items ≡ length t.sets.items
      as_long = ap (λ (m : Numbered S C). length m.sets) opened.same

      one_more : length t3.sets.items ≡ length t2.sets.items + 1
      one_more = ap (λ (m : Numbered S C). length m.sets) closed.same ∙ one_longer n empty part t1 t2 closed.middle none added.parts closed.stores

      last_fields : map plain t3.fields.items ≡ map plain t2.fields.items
      last_fields = ap (λ (m : Numbered S C). m.fields) closed.same ∙ ap (map plain) closed.stores.fields

      from : ComesFrom schema numbers p selections more t t3
      from = record {
        sets = λ k l. elim (or_cases (n == k) (is_among added.more k) l) [
          | inl e ↦ (p, selections, itself, subst (λ (j : ℕ). IsSetOf schema numbers (numbered t3) j p selections) (eqb-true n k e) has.is)
          | inr h ↦ (let (q, set', i, is) = inner_from.sets k h in (q, set', i, set_more schema numbers extends_end is))
        ];
        fields = λ k a l h. inner_from.fields k a (omega (arith, l, length-map t.fields.items plain, length-map t1.fields.items plain, ap (λ (m : Numbered S C). length m.fields) opened.same)) (subst (λ fs. slice_get fs k ≡ Some a) last_fields h);
        whole = λ known k l h. elim (cases_order k (length t2.sets.items)) [
          | inl eq ↦ or_left _ (is_among added.more k) (eq-eqb n k (closed.stores.number ∙ sym eq))
          | inr o ↦ elim o [
            | inl lt ↦ or_right _ (is_among added.more k) (inner_from.whole known k (omega (arith, l, as_long)) lt)
            | inr gt ↦ absurd (omega (arith, gt, h, one_more))
          ]
        ];
      }

      pub adds_set : AddsSet schema numbers p selections n t t3
      adds_set = record {
        has = has;
        more = more;
        order = order_is;
        listed = listed;
        found = λ q inner i. found q inner (front schema i);
        from = from;
        size = λ known.
            let inside = added.size p selections selections itself (λ x c. c) known in
            omega (arith, opened.size, inside, closed.size, ap length none.own, ap length none.spreads, ap length none.inner);
        nests = λ known. nests_set schema numbers p selections added.more n empty part t t1 t2 t3 has.is has_own none.inner as_long opened.inner one_more extends_end
            (λ g. ap (inner_measure g) closed.inner ∙ closed.stores.inner g) (added.nests p selections selections itself (λ x c. c) known);
      }
