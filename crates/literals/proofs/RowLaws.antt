-- The modifiers of a type, case by case.
use Rattle.std.proofs.Common.{◌≡◌, ℕ, List, [], ◌∷◌, Option, Some, None, false, is_some, length, reverse, refl, ap, sym, ◌∙◌}
use Rattle.std.proofs.Math.Path.{transport}
use Rattle.std.proofs.lemmas.List.{reverse-append, reverse-reverse}
use Rattle.language_types.specs.declared.types.TypeModifier.{TypeModifier}
use Rattle.language_types.specs.declared.types.TypeModifier.TheVariants as m
use Rattle.language_values.specs.declared.value.InputValue.{InputValue, roll-InputValue, out-InputValue, roll-out-InputValue}
use Rattle.language_values.specs.declared.value.InputValue.TheVariants as variant
use Rattle.language_values.specs.declared.value.InputValue.TheOpen as v
use Rattle.language_values.specs.declared.value.InputValue.TheFolds.{rec-InputValue}
use Rattle.language_values.specs.Values.{list_items, items_layer}
use Rattle.meta.specs.Answers.{Answers}
use Rattle.meta.specs.declared.kinds.MetaTypeOf.{MetaTypeOf}
use Rattle.schema.specs.Catalog.{Catalog}
use Rattle.schema.specs.Wrapped.{WrappedMeta, wrap_meta}
use Rattle.literals.specs.FirstFault.{FirstFault}
use Rattle.literals.specs.Judged.{Judge, other_length, within, printed_type, against, judge_step, sized, Judged}
use Rattle.literals.specs.Rows.{item_count, SaysItems}
use Rattle.literals.specs.Texts.{null_text, length_text}
use Rattle.literals.proofs.Unfold.{judged-roll}

module _ {S C : Type 0} (schema : Catalog S C) (may : Answers (InputValue S) C) (shown : InputValue S → List ℕ) where
  abbrev pub Against : v.InputValue-F S (InputValue S) → InputValue S → List TypeModifier → MetaTypeOf S C → Option (List ℕ) → Type 0
  Against = against schema may shown (λ y. y) (rec-InputValue S (Judge S C) (judge_step schema may shown))

  pub at_roll : (value : InputValue S) (x : v.InputValue-F S (InputValue S)) (w : WrappedMeta S C) (fault : Option (List ℕ)) → value ≡ roll-InputValue S x
      → Judged schema may shown value w fault ≡ Against x value (reverse w.modifiers) w.meta fault
  at_roll value x w fault e =
      ap (λ u. Judged schema may shown u w fault) e ∙ judged-roll schema may shown x w fault ∙ ap (λ u. Against x u (reverse w.modifiers) w.meta fault) (sym e)

  pub at_wrap : (value : InputValue S) (x : v.InputValue-F S (InputValue S)) (m : TypeModifier) (w : WrappedMeta S C) (fault : Option (List ℕ)) → value ≡ roll-InputValue S x
      → Judged schema may shown value (wrap_meta m w) fault ≡ Against x value (m ∷ reverse w.modifiers) w.meta fault
  at_wrap value x m w fault e = at_roll value x (wrap_meta m w) fault e ∙ ap (λ ms. Against x value ms w.meta fault) (reverse-append w.modifiers (m ∷ []))

  pub within_of : (w : WrappedMeta S C) → within (reverse w.modifiers) w.meta ≡ w
  within_of w = ap (λ (ns : List TypeModifier). let r : WrappedMeta S C = record { meta = w.meta; modifiers = ns } in r) (reverse-reverse w.modifiers)

  pub within_wrap : (m : TypeModifier) (w : WrappedMeta S C) → wrap_meta m w ≡ within (m ∷ reverse w.modifiers) w.meta
  within_wrap m w = sym (within_of (wrap_meta m w)) ∙ ap (λ ms. within ms w.meta) (reverse-append w.modifiers (m ∷ []))

  abbrev is_roll : (value : InputValue S) (x : v.InputValue-F S (InputValue S)) → out-InputValue S value ≡ x → value ≡ roll-InputValue S x
  is_roll value x o = sym (roll-out-InputValue S value) ∙ ap (roll-InputValue S) o

  -- null, where the type is never null
  pub null_row : (value : InputValue S) (w : WrappedMeta S C) (fault : Option (List ℕ)) → value ≡ variant.Null
      → fault ≡ Some (null_text (printed_type (wrap_meta m.NonNull w))) → Judged schema may shown value (wrap_meta m.NonNull w) fault
  null_row value w fault n e =
      transport (sym (at_wrap value v.Null m.NonNull w fault (n ∙ sym variant.rolls-Null)))
      (e ∙ ap (λ u. Some (null_text (printed_type u))) (within_wrap m.NonNull w))

  -- another value there
  other_row : (value : InputValue S) (x : v.InputValue-F S (InputValue S)) (w : WrappedMeta S C) (fault : Option (List ℕ)) → value ≡ roll-InputValue S x → (value ≡ variant.Null → ⊥)
      → Judged schema may shown value w fault → Judged schema may shown value (wrap_meta m.NonNull w) fault
  other_row value v.Null w fault e n j = absurd (n (e ∙ variant.rolls-Null))
  other_row value (v.Scalar s) w fault e n j = transport (sym (at_wrap value (v.Scalar s) m.NonNull w fault e)) (transport (at_roll value (v.Scalar s) w fault e) j)
  other_row value (v.Enum s) w fault e n j = transport (sym (at_wrap value (v.Enum s) m.NonNull w fault e)) (transport (at_roll value (v.Enum s) w fault e) j)
  other_row value (v.Variable s) w fault e n j = transport (sym (at_wrap value (v.Variable s) m.NonNull w fault e)) (transport (at_roll value (v.Variable s) w fault e) j)
  other_row value (v.List s) w fault e n j = transport (sym (at_wrap value (v.List s) m.NonNull w fault e)) (transport (at_roll value (v.List s) w fault e) j)
  other_row value (v.Object s) w fault e n j = transport (sym (at_wrap value (v.Object s) m.NonNull w fault e)) (transport (at_roll value (v.Object s) w fault e) j)

  pub non_null_row : (value : InputValue S) (w : WrappedMeta S C) (fault : Option (List ℕ)) → (value ≡ variant.Null → ⊥)
      → Judged schema may shown value w fault → Judged schema may shown value (wrap_meta m.NonNull w) fault
  non_null_row value w fault n j = other_row value (out-InputValue S value) w fault (is_roll value (out-InputValue S value) refl) n j

  -- what counts as no list
  free_row : (value : InputValue S) (x : v.InputValue-F S (InputValue S)) (size : Option ℕ) (w : WrappedMeta S C) (fault : Option (List ℕ)) → value ≡ roll-InputValue S x → item_count x ≡ None
      → fault ≡ None → Judged schema may shown value (wrap_meta (m.List size) w) fault
  free_row value v.Null size w fault e n f = transport (sym (at_wrap value v.Null (m.List size) w fault e)) f
  free_row value (v.Variable s) size w fault e n f = transport (sym (at_wrap value (v.Variable s) (m.List size) w fault e)) f
  free_row value (v.Scalar s) size w fault e n f = cc
  free_row value (v.Enum s) size w fault e n f = cc
  free_row value (v.List s) size w fault e n f = cc
  free_row value (v.Object s) size w fault e n f = cc

  pub conforming_row : (value : InputValue S) (size : Option ℕ) (w : WrappedMeta S C) (fault : Option (List ℕ)) → item_count (out-InputValue S value) ≡ None
      → fault ≡ None → Judged schema may shown value (wrap_meta (m.List size) w) fault
  conforming_row value size w fault n f = free_row value (out-InputValue S value) size w fault (is_roll value (out-InputValue S value) refl) n f

  -- what is said of a length
  unfit : (o : Option ℕ) (wanted found : ℕ) (value : InputValue S) (fault : Option (List ℕ)) (T : Type 0) → o ≡ Some wanted
      → fault ≡ Some (length_text wanted (shown value) found) → sized may shown o found value fault T
  unfit None wanted found value fault T n f = cc
  unfit (Some e) wanted found value fault T n f = let one : wanted ≡ e = cc in f ∙ ap (λ k. Some (length_text k (shown value) found)) one

  fit : (o : Option ℕ) (found : ℕ) (value : InputValue S) (fault : Option (List ℕ)) (T : Type 0) → o ≡ None → T → sized may shown o found value fault T
  fit None found value fault T n t = t
  fit (Some e) found value fault T n t = cc

  long_row : (value : InputValue S) (x : v.InputValue-F S (InputValue S)) (size : Option ℕ) (wanted found : ℕ) (w : WrappedMeta S C) (fault : Option (List ℕ)) → value ≡ roll-InputValue S x → item_count x ≡ Some found → other_length size found ≡ Some wanted
      → fault ≡ Some (length_text wanted (shown value) found) → Judged schema may shown value (wrap_meta (m.List size) w) fault
  long_row value v.Null size wanted found w fault e n u f = cc
  long_row value (v.Variable s) size wanted found w fault e n u f = cc
  long_row value (v.Scalar s) size wanted found w fault e n u f = let one : found ≡ 1 = cc in transport (sym (at_wrap value (v.Scalar s) (m.List size) w fault e)) (unfit (other_length size 1) wanted 1 value fault _ (ap (other_length size) (sym one) ∙ u) (f ∙ ap (λ k. Some (length_text wanted (shown value) k)) one))
  long_row value (v.Enum s) size wanted found w fault e n u f = let one : found ≡ 1 = cc in transport (sym (at_wrap value (v.Enum s) (m.List size) w fault e)) (unfit (other_length size 1) wanted 1 value fault _ (ap (other_length size) (sym one) ∙ u) (f ∙ ap (λ k. Some (length_text wanted (shown value) k)) one))
  long_row value (v.Object s) size wanted found w fault e n u f = let one : found ≡ 1 = cc in transport (sym (at_wrap value (v.Object s) (m.List size) w fault e)) (unfit (other_length size 1) wanted 1 value fault _ (ap (other_length size) (sym one) ∙ u) (f ∙ ap (λ k. Some (length_text wanted (shown value) k)) one))
  long_row value (v.List s) size wanted found w fault e n u f = let one : found ≡ length s.items = cc in transport (sym (at_wrap value (v.List s) (m.List size) w fault e)) (unfit (other_length size (length s.items)) wanted (length s.items) value fault _ (ap (other_length size) (sym one) ∙ u) (f ∙ ap (λ k. Some (length_text wanted (shown value) k)) one))

  pub length_row : (value : InputValue S) (size : Option ℕ) (wanted found : ℕ) (w : WrappedMeta S C) (fault : Option (List ℕ)) → item_count (out-InputValue S value) ≡ Some found → other_length size found ≡ Some wanted
      → fault ≡ Some (length_text wanted (shown value) found) → Judged schema may shown value (wrap_meta (m.List size) w) fault
  length_row value size wanted found w fault n u f = long_row value (out-InputValue S value) size wanted found w fault (is_roll value (out-InputValue S value) refl) n u f

  through_row : (value : InputValue S) (x : v.InputValue-F S (InputValue S)) (size : Option ℕ) (found : ℕ) (w : WrappedMeta S C) (fault : Option (List ℕ)) → value ≡ roll-InputValue S x → item_count x ≡ Some found → other_length size found ≡ None → is_some (items_layer x) ≡ false
      → Judged schema may shown value w fault → Judged schema may shown value (wrap_meta (m.List size) w) fault
  through_row value v.Null size found w fault e n u l j = cc
  through_row value (v.Variable s) size found w fault e n u l j = cc
  through_row value (v.Scalar s) size found w fault e n u l j = let one : found ≡ 1 = cc in transport (sym (at_wrap value (v.Scalar s) (m.List size) w fault e)) (fit (other_length size 1) 1 value fault _ (ap (other_length size) (sym one) ∙ u) (transport (at_roll value (v.Scalar s) w fault e) j))
  through_row value (v.Enum s) size found w fault e n u l j = let one : found ≡ 1 = cc in transport (sym (at_wrap value (v.Enum s) (m.List size) w fault e)) (fit (other_length size 1) 1 value fault _ (ap (other_length size) (sym one) ∙ u) (transport (at_roll value (v.Enum s) w fault e) j))
  through_row value (v.Object s) size found w fault e n u l j = let one : found ≡ 1 = cc in transport (sym (at_wrap value (v.Object s) (m.List size) w fault e)) (fit (other_length size 1) 1 value fault _ (ap (other_length size) (sym one) ∙ u) (transport (at_roll value (v.Object s) w fault e) j))
  through_row value (v.List s) size found w fault e n u l j = cc

  pub single_row : (value : InputValue S) (size : Option ℕ) (found : ℕ) (w : WrappedMeta S C) (fault : Option (List ℕ)) → item_count (out-InputValue S value) ≡ Some found → other_length size found ≡ None → is_some (list_items value) ≡ false
      → Judged schema may shown value w fault → Judged schema may shown value (wrap_meta (m.List size) w) fault
  single_row value size found w fault n u l j = through_row value (out-InputValue S value) size found w fault (is_roll value (out-InputValue S value) refl) n u l j

  listed_row : (value : InputValue S) (x : v.InputValue-F S (InputValue S)) (size : Option ℕ) (found : ℕ) (w : WrappedMeta S C) (fault : Option (List ℕ)) → value ≡ roll-InputValue S x → item_count x ≡ Some found → other_length size found ≡ None
      → SaysItems schema may shown (items_layer x) w fault → Judged schema may shown value (wrap_meta (m.List size) w) fault
  listed_row value v.Null size found w fault e n u j = absurd j
  listed_row value (v.Variable s) size found w fault e n u j = absurd j
  listed_row value (v.Scalar s) size found w fault e n u j = absurd j
  listed_row value (v.Enum s) size found w fault e n u j = absurd j
  listed_row value (v.Object s) size found w fault e n u j = absurd j
  listed_row value (v.List s) size found w fault e n u j =
      let one : found ≡ length s.items = cc in
      transport (sym (at_wrap value (v.List s) (m.List size) w fault e))
      (fit (other_length size (length s.items)) (length s.items) value fault _ (ap (other_length size) (sym one) ∙ u)
      (transport (ap (λ t. FirstFault (λ y. Judged schema may shown y.item t) (λ f. f ≡ None) s.items fault) (sym (within_of w))) j))

  pub items_row : (value : InputValue S) (size : Option ℕ) (found : ℕ) (w : WrappedMeta S C) (fault : Option (List ℕ)) → item_count (out-InputValue S value) ≡ Some found → other_length size found ≡ None
      → SaysItems schema may shown (list_items value) w fault → Judged schema may shown value (wrap_meta (m.List size) w) fault
  items_row value size found w fault n u j = listed_row value (out-InputValue S value) size found w fault (is_roll value (out-InputValue S value) refl) n u j

  -- the same at a type that is such a one
  pub moved : (value : InputValue S) (u w : WrappedMeta S C) (fault : Option (List ℕ)) → u ≡ w → Judged schema may shown value w fault → Judged schema may shown value u fault
  moved value u w fault e j = transport (ap (λ z. Judged schema may shown value z fault) (sym e)) j
