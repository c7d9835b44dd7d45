-- What a represented set has of its own is what the definitions say.
use Rattle.std.proofs.Common.{◌≡◌, ℕ, zero, suc, List, [], ◌∷◌, ◌++◌, Option, Some, None, refl, sym, ap, subst, ◌∙◌, inl, inr, Bool, true, false, ◌||◌, ◌==◌, append-nil, arith}
use Rattle.std.specs.List.{Contains}
use Rattle.std.proofs.lemmas.List.Folds.{list_any-append}
use Rattle.std.proofs.lemmas.List.Elements.{Contains-append_left, Contains-append_right, Contains-append_cases}
use Rattle.std.proofs.lemmas.Bool.{or_left, or_right, or_cases, eq-eqb, eqb-true}
use Rattle.std.proofs.lemmas.Grind.{flat_map-append}
use Rattle.language.specs.declared.tree.Selection.{Selection}
use Rattle.language.specs.declared.tree.Selection.TheVariants as selection
use Rattle.meta.specs.declared.kinds.MetaTypeOf.{MetaTypeOf}
use Rattle.schema.specs.Catalog.{Catalog}
use Rattle.merge_field_pairs.specs.Entries.{PlainEntry}
use Rattle.merge_field_pairs.specs.OwnFields.{Names, own_fields, own_fields_of, own_spreads, own_spreads_of}
use Rattle.merge_field_pairs.proofs.OwnFieldLaws.{own_fields_of-Field, own_fields_of-Spread, own_fields_of-Inline, own_spreads_of-Field, own_spreads_of-Spread, own_spreads_of-Inline}
use Rattle.merge_sets.specs.declared.node.Entry.{Entry as OwnField}
use Rattle.merge_set_table.specs.Table.{Numbered}
use Rattle.merge_set_table.specs.Represents.{Represents, nothing, join, leaf, field, spread, unknown, inline}
use Rattle.merge_set_table.specs.OwnParts.{without_set, with_set, AreFieldsOf, no_fields, more_fields, AreNumbersOf}
use Rattle.merge_set_table.specs.Once.{is_among}
use Rattle.merge_set_table.proofs.Lists.{same_some}

-- the only member of a list of one
only : {X : Type 0} (x y : X) → Contains (x ∷ []) y → x ≡ y
only x y (zero, l, e) = e
only x y (suc k, l, e) = absurd (omega (arith, l))

Contains-here : {X : Type 0} (x : X) (xs : List X) → Contains (x ∷ xs) x
Contains-here x xs = (0, omega arith, refl)

module _ {S C : Type 0} (schema : Catalog S C) (numbers : List ℕ → Option ℕ) (m : Numbered S C) where
  fields_join : {os ps : List (PlainEntry S C)} {own own' : List OwnField} → AreFieldsOf schema numbers m os own → AreFieldsOf schema numbers m ps own' → AreFieldsOf schema numbers m (os ++ ps) (own ++ own')
  fields_join no_fields b = b
  fields_join (more_fields f a) b = more_fields f (fields_join a b)

  at_one : (p : Option (MetaTypeOf S C)) (x : Selection S) (os : List (PlainEntry S C)) (own : List OwnField) → own_fields_of schema p x ≡ os → AreFieldsOf schema numbers m os own → AreFieldsOf schema numbers m (own_fields schema p (x ∷ [])) own
  at_one p x os own is h = subst (λ z. AreFieldsOf schema numbers m z own) (sym (append-nil (own_fields_of schema p x) ∙ is)) h

  -- the own fields of a set, one for one
  pub represented_fields : {p : Option (MetaTypeOf S C)} {xs : List (Selection S)} {own : List OwnField} {to : List ℕ}
      → Represents schema numbers m p xs own to → AreFieldsOf schema numbers m (own_fields schema p xs) own
  represented_fields nothing = no_fields
  represented_fields {p} (join {xs = xs} {ys = ys} {own = a} {own' = b} h k) =
      subst (λ z. AreFieldsOf schema numbers m z (a ++ b)) (sym (flat_map-append (own_fields_of schema p) xs ys)) (fields_join (represented_fields h) (represented_fields k))
  represented_fields {p} (leaf f a is none below) = at_one p (selection.Field f) _ _ (own_fields_of-Field schema p f) (more_fields (without_set is none below) no_fields)
  represented_fields {p} (field f a w n row to is some below stored once r) =
      at_one p (selection.Field f) _ _ (own_fields_of-Field schema p f)
      (more_fields (with_set w n is some below (record { row = row; to = to; stored = stored; once = once; represents = r })) no_fields)
  represented_fields {p} (spread s g h) = at_one p (selection.FragmentSpread s) _ _ (own_fields_of-Spread schema p s) no_fields
  represented_fields {p} (unknown s h) = at_one p (selection.FragmentSpread s) _ _ (own_fields_of-Spread schema p s) no_fields
  represented_fields {p} (inline i own to to' same r) = at_one p (selection.InlineFragment i) _ _ (own_fields_of-Inline schema p i) (represented_fields r)

  -- a member of one list of names with another behind it
  among_join : (to to' : List ℕ) (g : ℕ) → is_among (to ++ to') g ≡ (is_among to g || is_among to' g)
  among_join to to' g = list_any-append (λ y. y == g) to to'

  joined_names : (xs ys : List (Selection S)) → own_spreads (xs ++ ys) ≡ own_spreads xs ++ own_spreads ys
  joined_names xs ys = flat_map-append own_spreads_of xs ys

  one_name : (x : Selection S) (names : Names) → own_spreads_of x ≡ names → own_spreads (x ∷ []) ≡ names
  one_name x names is = append-nil (own_spreads_of x) ∙ is

  numbers_none : AreNumbersOf numbers [] []
  numbers_none = record { each = λ name g i h. let l = i.1 in absurd (omega (arith, l)); none_other = λ g h. cc }

  numbers_join : (ns ms : Names) (to to' : List ℕ) → AreNumbersOf numbers ns to → AreNumbersOf numbers ms to' → AreNumbersOf numbers (ns ++ ms) (to ++ to')
  numbers_join ns ms to to' a b = record {
    each = λ name g i h. among_join to to' g ∙ elim (Contains-append_cases ns ms name i) [
      | inl j ↦ or_left (is_among to g) (is_among to' g) (a.each name g j h)
      | inr j ↦ or_right (is_among to g) (is_among to' g) (b.each name g j h)
    ];
    none_other = λ g h. elim (or_cases (is_among to g) (is_among to' g) (sym (among_join to to' g) ∙ h)) [
      | inl j ↦ (let s = a.none_other g j in (s.0, Contains-append_left ns ms s.0 s.1, s.2))
      | inr j ↦ (let s = b.none_other g j in (s.0, Contains-append_right ns ms s.0 s.1, s.2))
    ];
  }

  numbers_one : (name : List ℕ) (g : ℕ) → numbers name ≡ Some g → AreNumbersOf numbers (name ∷ []) (g ∷ [])
  numbers_one name g is = record {
    each = λ other k i h. or_left (g == k) false (eq-eqb g k (same_some g k (sym is ∙ ap numbers (only name other i) ∙ h)));
    none_other = λ k h. (name, Contains-here name [], is ∙ ap (λ (j : ℕ). Some j) (eqb-true g k (one (g == k) h)));
  }
    where
      one : (b : Bool) → (b || false) ≡ true → b ≡ true
      one true h = refl
      one false h = h

  numbers_unknown : (name : List ℕ) → numbers name ≡ None → AreNumbersOf numbers (name ∷ []) []
  numbers_unknown name is = record {
    each = λ other k i h. absurd (clash k (sym is ∙ ap numbers (only name other i) ∙ h));
    none_other = λ g h. cc;
  }
    where
      clash : (k : ℕ) → None ≡ Some k → ⊥
      clash k e = cc

  -- the numbers of the names that the set spreads itself
  pub represented_spreads : {p : Option (MetaTypeOf S C)} {xs : List (Selection S)} {own : List OwnField} {to : List ℕ}
      → Represents schema numbers m p xs own to → AreNumbersOf numbers (own_spreads xs) to
  represented_spreads nothing = numbers_none
  represented_spreads (join {xs = xs} {ys = ys} {to = to} {to' = to'} h k) =
      subst (λ z. AreNumbersOf numbers z (to ++ to')) (sym (joined_names xs ys)) (numbers_join _ _ to to' (represented_spreads h) (represented_spreads k))
  represented_spreads (leaf f a is none below) = subst (λ z. AreNumbersOf numbers z []) (sym (one_name (selection.Field f) [] (own_spreads_of-Field f))) numbers_none
  represented_spreads (field f a w n row to is some below stored once r) = subst (λ z. AreNumbersOf numbers z []) (sym (one_name (selection.Field f) [] (own_spreads_of-Field f))) numbers_none
  represented_spreads (spread s g h) = subst (λ z. AreNumbersOf numbers z (g ∷ [])) (sym (one_name (selection.FragmentSpread s) _ (own_spreads_of-Spread s))) (numbers_one s.item.name.item.now g h)
  represented_spreads (unknown s h) = subst (λ z. AreNumbersOf numbers z []) (sym (one_name (selection.FragmentSpread s) _ (own_spreads_of-Spread s))) (numbers_unknown s.item.name.item.now h)
  represented_spreads (inline i own to to' same r) =
      subst (λ z. AreNumbersOf numbers z to') (sym (one_name (selection.InlineFragment i) _ (own_spreads_of-Inline i)))
      (numbers_same (own_spreads i.item.selection_set.items) to to' same (represented_spreads r))
    where
      numbers_same : (ns : Names) (to to' : List ℕ) → ((x : ℕ) → is_among to' x ≡ is_among to x) → AreNumbersOf numbers ns to → AreNumbersOf numbers ns to'
      numbers_same ns to to' same a = record {
        each = λ name g i h. same g ∙ a.each name g i h;
        none_other = λ g h. a.none_other g (sym (same g) ∙ h);
      }
