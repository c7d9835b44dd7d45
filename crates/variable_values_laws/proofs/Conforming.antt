-- Values without fault conform.
use Rattle.std.proofs.Common.{◌≡◌, ℕ, List, [], ◌∷◌, ◌++◌, Bool, true, false, Contains, Option, Some, None, map, length, reverse, string_bytes, refl, ap, sym, ◌∙◌, inl, inr, subst, if◌then◌else◌, true≢false}
use Rattle.std.proofs.lemmas.Bool.{eqb-true}
use Rattle.std.proofs.lemmas.List.{reverse-reverse}
use Rattle.std.proofs.Math.Path.{transport}
use Rattle.language_types.specs.declared.position.Span.{Span}
use Rattle.language_types.specs.declared.position.Spanning.{Spanning}
use Rattle.language_types.specs.declared.types.TypeModifier.{TypeModifier}
use Rattle.language_types.specs.declared.types.TypeModifier.TheVariants as m
use Rattle.language_values.specs.declared.value.InputValue.{InputValue, out-InputValue, out-roll-InputValue, roll-InputValue}
use Rattle.language_values.specs.declared.value.InputValue.TheOpen as v
use Rattle.language_values.specs.declared.value.InputValue.TheVariants as variant
use Rattle.language_values.specs.Each.{Each}
use Rattle.language_types.specs.Types.{IsNonNull, TypeShape, by_outermost, nullable_named, outermost, shape, wrapped_by}
use Rattle.language_values.specs.Values.{Entry, last_value, entries_layer, items_layer, list_items, object_entries}
use Rattle.language_values.specs.ValuesPrinted.{printed_value}
use Rattle.language_values.proofs.ValueInduction.{value_induction}
use Rattle.meta.specs.Answers.{Answers, Accepts}
use Rattle.meta.specs.Kept.{scalar_check, input_object_check}
use Rattle.meta.specs.declared.arguments.Argument.{Argument}
use Rattle.meta.specs.declared.enums.EnumMetaOf.{EnumMetaOf}
use Rattle.meta.specs.declared.inputs.InputObjectMetaOf.{InputObjectMetaOf}
use Rattle.meta.specs.declared.kinds.MetaTypeOf.{MetaTypeOf}
use Rattle.meta.specs.declared.kinds.MetaTypeOf.TheVariants as k
use Rattle.schema.specs.Catalog.{Catalog, type_in}
use Rattle.schema.proofs.WrappedLemmas.{outermost-push}
use Rattle.variable_values.specs.Faults.{Checked, Fault, Faults, OfMeta, OfNamed, OrChecked, Step, accepted_faults, element, enum_faults, field, judge_of, left_out, under, unknown_field, whole_faults, within, wrong_length}
use Rattle.variable_values.specs.Dialects.{is_needed}
use Rattle.variable_values.specs.InTurn.{InTurn}
use Rattle.variable_values.specs.Keys.{field_names, keys_of, unknown_keys}
use Rattle.variable_values.specs.Rows.{Below, OfField, OfFields, OfWhole}
use Rattle.variable_values.specs.Texts.{input_text}
use Rattle.variable_values.proofs.LastValues.{each-at, last_entry}
use Rattle.variable_values.proofs.RowLaws.{OfLevel, at_roll, within_of, within_wrap}
use Rattle.variable_values_laws.specs.Conforms.{Conforms, enum_string, enum_value, input_object, list, non_null, null, scalar, single, value_names}
use Rattle.variable_values_laws.proofs.Keys.{contains_among, known_keys}
use Rattle.variable_values_laws.proofs.Parts.{back_none, front_none, mapped_none, none_in_turn}

-- ---- types
within_more : (x : TypeModifier) (ms : List TypeModifier) (name : List ℕ) → wrapped_by x (within ms name) ≡ within (x ∷ ms) name
within_more x ms name = within_wrap x (within ms name) ∙ ap (λ ns. within (x ∷ ns) name) (reverse-reverse ms)

list_nullable : (size : Option ℕ) (ms : List TypeModifier) (name : List ℕ) → ¬ (IsNonNull (within (m.List size ∷ ms) name))
list_nullable size ms name n =
    let e : Some (m.List size) ≡ Some m.NonNull = sym (outermost-push (reverse ms) (m.List size)) ∙ ap (λ (t : TypeShape). outermost t.modifiers) (within_more (m.List size) ms name) ∙ n in cc

-- where nothing is told of a null, the type isn't non-null
pub nullable_by : {A : Type 0} (x : A) (xs : List A) (o : Option TypeModifier) → [] ≡ by_outermost (x ∷ xs) [] [] o → ¬ (o ≡ Some m.NonNull)
nullable_by x xs None e n = cc
nullable_by x xs (Some m.NonNull) e n = cc
nullable_by x xs (Some (m.List size)) e n = cc

nothing_if : (b : Bool) (f : Fault) → [] ≡ (if b then [] else f ∷ []) → b ≡ true
nothing_if true f e = refl
nothing_if false f e = cc

none_unless : (b : Bool) (f : Fault) → [] ≡ (if b then f ∷ [] else []) → b ≡ false
none_unless true f e = cc
none_unless false f e = refl

has_length : (size : Option ℕ) (found n : ℕ) → [] ≡ wrong_length size found → size ≡ Some n → found ≡ n
has_length None found n e is = cc
has_length (Some k) found n e is = let same : k ≡ n = cc in sym (eqb-true k found (nothing_if _ _ e)) ∙ same

-- ---- values by their one level
module _ {S : Type 0} where
  abbrev is_null_level : v.InputValue-F S (InputValue S) → Bool
  is_null_level v.Null = true
  is_null_level _ = false

  opened : (value : InputValue S) (x : v.InputValue-F S (InputValue S)) → value ≡ roll-InputValue S x → out-InputValue S value ≡ x
  opened value x e = ap (out-InputValue S) e ∙ out-roll-InputValue S x

  not_null : (value : InputValue S) (x : v.InputValue-F S (InputValue S)) → value ≡ roll-InputValue S x → is_null_level x ≡ false → ¬ (value ≡ variant.Null)
  not_null value x e h n = true≢false (sym (ap is_null_level (sym (opened value x e) ∙ opened value v.Null (n ∙ sym variant.rolls-Null))) ∙ h)

  accepted_plain : (name : List ℕ) (x : v.InputValue-F S (InputValue S)) → [] ≡ whole_faults name x → (items_layer x ≡ None) × (entries_layer x ≡ None)
  accepted_plain name v.Null e = (refl, refl)
  accepted_plain name (v.Scalar s) e = (refl, refl)
  accepted_plain name (v.Enum s) e = (refl, refl)
  accepted_plain name (v.Variable s) e = (refl, refl)
  accepted_plain name (v.List s) e = cc
  accepted_plain name (v.Object s) e = cc

module _ {S C : Type 0} (schema : Catalog S C) (may : Answers (InputValue S) C) (text : S → List ℕ) (str_of : S → Option (List ℕ)) where
  accepts : (c : C) (value : InputValue S) (said : List ℕ → List ℕ) (accepted : List Fault) → Checked may c value said accepted [] → Accepts may c value × ([] ≡ accepted)
  accepts c value said accepted (inl p) = p
  accepts c value said accepted (inr q) = cc (q.2)

  or_none : (hs : List Fault) (c : C) (value : InputValue S) (said : List ℕ → List ℕ) → OrChecked may hs c value said [] → ([] ≡ hs) × Accepts may c value
  or_none [] c value said h = (refl, (accepts c value said [] h).0)
  or_none (g ∷ gs) c value said h = cc

  -- where a value is without fault it conforms, at every type
  abbrev ConformsAt : InputValue S → Type 0
  ConformsAt value = (t : TypeShape) → Faults schema may text str_of value t [] → Conforms schema may str_of (Some value) t

  abbrev Inside : v.InputValue-F S (InputValue S) → Type 0
  Inside (v.List xs) = Each (λ x. ConformsAt x.item) xs.items
  Inside (v.Object es) = Each (λ e. ConformsAt e.1.item) es.items
  Inside _ = Unit {0}

  below_none : (step : Step) (t : TypeShape) (value : InputValue S) → Below schema may text str_of step t value [] → Faults schema may text str_of value t []
  below_none step t value (gs, h, e) = subst (Faults schema may text str_of value t) (sym (mapped_none (under step) gs e)) h

  pub null_as : (value : InputValue S) (t : TypeShape) → value ≡ variant.Null → ¬ (IsNonNull t) → Conforms schema may str_of (Some value) t
  null_as value t e n = subst (λ u. Conforms schema may str_of (Some u) t) (sym e) (null t n)

  -- ---- fields
  not_needed : (a : Argument S) → OfField schema may text str_of a None [] → is_needed schema a ≡ false
  not_needed a e = none_unless (is_needed schema a) _ (mapped_none (under (field (string_bytes a.name))) (left_out schema a) e)

  conform_field : (a : Argument S) (es : List (Entry (InputValue S))) → Each (λ e. ConformsAt e.1.item) es → (x : InputValue S) → last_value (string_bytes a.name) es ≡ Some x
      → OfField schema may text str_of a (Some x) [] → Conforms schema may str_of (Some x) (shape a.arg_type)
  conform_field a es h x is e =
      let at = last_entry (string_bytes a.name) es x is in
      let inner : ConformsAt x = subst ConformsAt at.2 (each-at (λ (n : Entry (InputValue S)). ConformsAt n.1.item) es at.1.0 at.0 at.1.1 at.1.2 h) in
      inner (shape a.arg_type) (below_none (field (string_bytes a.name)) (shape a.arg_type) x e)

  conform_object : (value : InputValue S) (name : List ℕ) (o : InputObjectMetaOf S C) (es : List (Entry (InputValue S))) → type_in name schema ≡ Some (k.InputObject o) → object_entries value ≡ Some es
      → Each (λ e. ConformsAt e.1.item) es → OfWhole schema may text str_of o es value [] → Conforms schema may str_of (Some value) (nullable_named name)
  conform_object value name o es known is h (gs, at, told) =
      let unknown = map unknown_field (unknown_keys (field_names o.input_fields.items) (keys_of es)) in
      let told_of = or_none (gs ++ unknown) (input_object_check o) value (input_text (string_bytes o.name) (printed_value text str_of value)) told in
      let fields = subst (OfFields schema may text str_of o.input_fields.items es) (sym (front_none gs unknown told_of.0)) at in
      let keys = sym (mapped_none unknown_field (unknown_keys (field_names o.input_fields.items) (keys_of es)) (back_none gs unknown told_of.0)) in
      let none : (a : Argument S) → Contains o.input_fields.items a → OfField schema may text str_of a (last_value (string_bytes a.name) es) [] =
      λ a c. (none_in_turn (λ (i : ℕ) (b : Argument S). OfField schema may text str_of b (last_value (string_bytes b.name) es)) 0 o.input_fields.items a c fields).1 in
      input_object value name o es known is (known_keys (field_names o.input_fields.items) (keys_of es) keys)
      (λ a c last. not_needed a (subst (λ q. OfField schema may text str_of a q []) last (none a c)))
      (λ a x c last. conform_field a es h x last (subst (λ q. OfField schema may text str_of a q []) last (none a c)))
      told_of.1

  -- ---- names
  conform_enum : (value : InputValue S) (x : v.InputValue-F S (InputValue S)) (name : List ℕ) (e : EnumMetaOf C) → value ≡ roll-InputValue S x → type_in name schema ≡ Some (k.Enum e)
      → OfMeta schema may text str_of (λ y. y) (judge_of schema may text str_of) x value (k.Enum e) [] → Conforms schema may str_of (Some value) (nullable_named name)
  conform_enum value (v.Enum s) name e is known j =
      subst (λ u. Conforms schema may str_of (Some u) (nullable_named name)) (sym (is ∙ variant.rolls-Enum s)) (enum_value s name e known (contains_among (value_names e) (string_bytes s) (nothing_if _ _ j)))
  conform_enum value (v.Scalar s) name e is known j = of_string (str_of s) refl j
    where
      of_string : (o : Option (List ℕ)) → str_of s ≡ o → [] ≡ enum_faults (string_bytes e.name) (value_names e) o → Conforms schema may str_of (Some value) (nullable_named name)
      of_string None str j = cc
      of_string (Some n) str j =
          subst (λ u. Conforms schema may str_of (Some u) (nullable_named name)) (sym (is ∙ variant.rolls-Scalar s)) (enum_string s n name e known str (contains_among (value_names e) n (nothing_if _ _ j)))
  conform_enum value v.Null name e is known j = cc
  conform_enum value (v.Variable s) name e is known j = cc
  conform_enum value (v.List s) name e is known j = cc
  conform_enum value (v.Object s) name e is known j = cc

  conform_meta : (value : InputValue S) (x : v.InputValue-F S (InputValue S)) (name : List ℕ) (meta : MetaTypeOf S C) → value ≡ roll-InputValue S x → Inside x → type_in name schema ≡ Some meta
      → OfMeta schema may text str_of (λ y. y) (judge_of schema may text str_of) x value meta [] → Conforms schema may str_of (Some value) (nullable_named name)
  conform_meta value x name (k.Scalar s) is h known j =
      let checked = accepts (scalar_check s) value _ (accepted_faults schema s x) j in
      scalar value name s known
      (λ e.
      let plain = accepted_plain (string_bytes s.name) x (checked.1 ∙ ap (λ b. if b then [] else whole_faults (string_bytes s.name) x) e) in
      (ap items_layer (opened value x is) ∙ plain.0, ap entries_layer (opened value x is) ∙ plain.1))
      checked.0
  conform_meta value x name (k.Enum e) is h known j = conform_enum value x name e is known j
  conform_meta value (v.Object es) name (k.InputObject o) is h known j = conform_object value name o es.items known (ap entries_layer (opened value (v.Object es) is)) h j
  conform_meta value v.Null name (k.InputObject o) is h known j = cc
  conform_meta value (v.Scalar s) name (k.InputObject o) is h known j = cc
  conform_meta value (v.Enum s) name (k.InputObject o) is h known j = cc
  conform_meta value (v.Variable s) name (k.InputObject o) is h known j = cc
  conform_meta value (v.List s) name (k.InputObject o) is h known j = cc
  conform_meta value x name _ is h known j = absurd j

  conform_named : (value : InputValue S) (x : v.InputValue-F S (InputValue S)) (name : List ℕ) (o : Option (MetaTypeOf S C)) → value ≡ roll-InputValue S x → Inside x → type_in name schema ≡ o
      → OfNamed schema may text str_of (λ y. y) (judge_of schema may text str_of) x value o [] → Conforms schema may str_of (Some value) (nullable_named name)
  conform_named value v.Null name o is h known j = null_as value (nullable_named name) (is ∙ variant.rolls-Null) (λ n. cc)
  conform_named value (v.Scalar s) name None is h known j = absurd j
  conform_named value (v.Enum s) name None is h known j = absurd j
  conform_named value (v.Variable s) name None is h known j = absurd j
  conform_named value (v.List s) name None is h known j = absurd j
  conform_named value (v.Object s) name None is h known j = absurd j
  conform_named value (v.Scalar s) name (Some meta) is h known j = conform_meta value (v.Scalar s) name meta is h known j
  conform_named value (v.Enum s) name (Some meta) is h known j = conform_meta value (v.Enum s) name meta is h known j
  conform_named value (v.Variable s) name (Some meta) is h known j = conform_meta value (v.Variable s) name meta is h known j
  conform_named value (v.List s) name (Some meta) is h known j = conform_meta value (v.List s) name meta is h known j
  conform_named value (v.Object s) name (Some meta) is h known j = conform_meta value (v.Object s) name meta is h known j

  -- ---- modifiers
  conform_list : (value : InputValue S) (xs : List (Spanning (InputValue S) Span)) (size : Option ℕ) (t : TypeShape) → list_items value ≡ Some xs → Each (λ x. ConformsAt x.item) xs
      → (gs : List Fault) → InTurn (λ i x. Below schema may text str_of (element i) t x.item) 0 xs gs → [] ≡ wrong_length size (length xs) ++ gs → Conforms schema may str_of (Some value) (wrapped_by (m.List size) t)
  conform_list value xs size t is h gs turns e =
      let gives = λ (i : ℕ) (x : Spanning (InputValue S) Span). Below schema may text str_of (element i) t x.item in
      let none_of : InTurn gives 0 xs [] = subst (InTurn gives 0 xs) (sym (back_none (wrong_length size (length xs)) gs e)) turns in
      list value size t xs is (λ n. has_length size (length xs) n (front_none (wrong_length size (length xs)) gs e))
      (λ x c.
      let one = none_in_turn gives 0 xs x c none_of in
      each-at (λ (y : Spanning (InputValue S) Span). ConformsAt y.item) xs c.0 x c.1 c.2 h t (below_none (element one.0) t x.item one.1))

  rewrap : (value : InputValue S) (x : TypeModifier) (ms : List TypeModifier) (name : List ℕ) → Conforms schema may str_of (Some value) (wrapped_by x (within ms name)) → Conforms schema may str_of (Some value) (within (x ∷ ms) name)
  rewrap value x ms name h = subst (Conforms schema may str_of (Some value)) (within_more x ms name) h

  -- a non-null round a type, for a value that isn't null
  non_null_more : (value : InputValue S) (x : v.InputValue-F S (InputValue S)) (ms : List TypeModifier) (name : List ℕ) → value ≡ roll-InputValue S x → is_null_level x ≡ false
      → Conforms schema may str_of (Some value) (within ms name) → Conforms schema may str_of (Some value) (within (m.NonNull ∷ ms) name)
  non_null_more value x ms name is n h = rewrap value m.NonNull ms name (non_null value (within ms name) (not_null value x is n) h)

  -- a list round it, for a value that isn't a list either
  list_more : (value : InputValue S) (x : v.InputValue-F S (InputValue S)) (size : Option ℕ) (ms : List TypeModifier) (name : List ℕ) → value ≡ roll-InputValue S x → is_null_level x ≡ false → items_layer x ≡ None
      → [] ≡ wrong_length size 1 → Conforms schema may str_of (Some value) (within ms name) → Conforms schema may str_of (Some value) (within (m.List size ∷ ms) name)
  list_more value x size ms name is n l none h =
      rewrap value (m.List size) ms name (single value size (within ms name) (not_null value x is n) (ap items_layer (opened value x is) ∙ l) (λ k. has_length size 1 k none) h)

  none_level : (value : InputValue S) (x : v.InputValue-F S (InputValue S)) (size : Option ℕ) (ms : List TypeModifier) (name : List ℕ) (gs : List Fault) → [] ≡ wrong_length size 1 ++ gs
      → OfLevel schema may text str_of x value ms name gs → OfLevel schema may text str_of x value ms name []
  none_level value x size ms name gs e j = subst (OfLevel schema may text str_of x value ms name) (sym (back_none (wrong_length size 1) gs e)) j

  conform_level : (value : InputValue S) (x : v.InputValue-F S (InputValue S)) (ms : List TypeModifier) (name : List ℕ) → value ≡ roll-InputValue S x → Inside x → OfLevel schema may text str_of x value ms name []
      → Conforms schema may str_of (Some value) (within ms name)
  conform_level value x [] name is h j = conform_named value x name (type_in name schema) is h refl j
  conform_level value v.Null (m.NonNull ∷ ms) name is h j = cc
  conform_level value v.Null (m.List size ∷ ms) name is h j = null_as value (within (m.List size ∷ ms) name) (is ∙ variant.rolls-Null) (list_nullable size ms name)
  conform_level value (v.List xs) (m.NonNull ∷ ms) name is h j = rewrap value m.NonNull ms name (non_null value (within ms name) (not_null value (v.List xs) is refl) (conform_level value (v.List xs) ms name is h j))
  conform_level value (v.List xs) (m.List size ∷ ms) name is h (gs, turns, e) = rewrap value (m.List size) ms name (conform_list value xs.items size (within ms name) (ap items_layer (opened value (v.List xs) is)) h gs turns e)
  conform_level value (v.Scalar s) (m.NonNull ∷ ms) name is h j = non_null_more value (v.Scalar s) ms name is refl (conform_level value (v.Scalar s) ms name is h j)
  conform_level value (v.Enum s) (m.NonNull ∷ ms) name is h j = non_null_more value (v.Enum s) ms name is refl (conform_level value (v.Enum s) ms name is h j)
  conform_level value (v.Variable s) (m.NonNull ∷ ms) name is h j = non_null_more value (v.Variable s) ms name is refl (conform_level value (v.Variable s) ms name is h j)
  conform_level value (v.Object s) (m.NonNull ∷ ms) name is h j = non_null_more value (v.Object s) ms name is refl (conform_level value (v.Object s) ms name is h j)
  conform_level value (v.Scalar s) (m.List size ∷ ms) name is h (gs, j, e) =
      list_more value (v.Scalar s) size ms name is refl refl (front_none (wrong_length size 1) gs e) (conform_level value (v.Scalar s) ms name is h (none_level value (v.Scalar s) size ms name gs e j))
  conform_level value (v.Enum s) (m.List size ∷ ms) name is h (gs, j, e) =
      list_more value (v.Enum s) size ms name is refl refl (front_none (wrong_length size 1) gs e) (conform_level value (v.Enum s) ms name is h (none_level value (v.Enum s) size ms name gs e j))
  conform_level value (v.Variable s) (m.List size ∷ ms) name is h (gs, j, e) =
      list_more value (v.Variable s) size ms name is refl refl (front_none (wrong_length size 1) gs e) (conform_level value (v.Variable s) ms name is h (none_level value (v.Variable s) size ms name gs e j))
  conform_level value (v.Object s) (m.List size ∷ ms) name is h (gs, j, e) =
      list_more value (v.Object s) size ms name is refl refl (front_none (wrong_length size 1) gs e) (conform_level value (v.Object s) ms name is h (none_level value (v.Object s) size ms name gs e j))

  conform_at : (value : InputValue S) (x : v.InputValue-F S (InputValue S)) → value ≡ roll-InputValue S x → Inside x → ConformsAt value
  conform_at value x is h t j =
      subst (Conforms schema may str_of (Some value)) (within_of t)
      (conform_level value x (reverse t.modifiers) t.name is h (transport (at_roll schema may text str_of value x t [] is) j))

  pub conforms : (value : InputValue S) (t : TypeShape) → Faults schema may text str_of value t [] → Conforms schema may str_of (Some value) t
  conforms =
      value_induction ConformsAt
      (conform_at _ v.Null (sym variant.rolls-Null) tt)
      (λ s. conform_at _ (v.Scalar s) (sym (variant.rolls-Scalar s)) tt)
      (λ n. conform_at _ (v.Enum n) (sym (variant.rolls-Enum n)) tt)
      (λ n. conform_at _ (v.Variable n) (sym (variant.rolls-Variable n)) tt)
      (λ xs h. conform_at _ (v.List xs) (sym (variant.rolls-List xs)) h)
      (λ es h. conform_at _ (v.Object es) (sym (variant.rolls-Object es)) h)
