-- Where a value has no fault, its checks accept.
use Rattle.std.proofs.Common.{◌≡◌, ℕ, ◌+◌, ◌<◌, List, [], ◌∷◌, ◌++◌, Option, Some, None, map, length, get_or, reverse, string_bytes, zero, suc, refl, sym, ◌∙◌, inl, inr, subst, arith}
use Rattle.std.proofs.Math.Path.{transport}
use Rattle.std.proofs.lemmas.List.{reverse-reverse}
use Rattle.language_types.specs.declared.types.TypeModifier.{TypeModifier}
use Rattle.language_types.specs.declared.types.TypeModifier.TheVariants as m
use Rattle.language_values.specs.declared.value.InputValue.{InputValue, out-InputValue, roll-InputValue}
use Rattle.language_values.specs.declared.value.InputValue.TheOpen as v
use Rattle.language_values.specs.declared.value.InputValue.TheVariants as variant
use Rattle.language_types.specs.declared.position.Span.{Span}
use Rattle.language_types.specs.declared.position.Spanning.{Spanning}
use Rattle.language_types.specs.Types.{TypeShape, shape}
use Rattle.language_values.specs.Values.{Entry, last_value, entries_layer, items_layer}
use Rattle.language_values.specs.ValuesPrinted.{printed_value}
use Rattle.meta.specs.Answers.{Answers, Accepts}
use Rattle.meta.specs.Kept.{input_object_check}
use Rattle.meta.specs.declared.arguments.Argument.{Argument}
use Rattle.meta.specs.declared.inputs.InputObjectMetaOf.{InputObjectMetaOf}
use Rattle.meta.specs.declared.kinds.MetaTypeOf.{MetaTypeOf}
use Rattle.meta.specs.declared.kinds.MetaTypeOf.TheVariants as k
use Rattle.schema.specs.Catalog.{Catalog}
use Rattle.variable_values.specs.Asks.{Asks, AcceptedWhereAsked, of_scalar, of_object, at_field, at_item, alone, non_null}
use Rattle.variable_values.specs.Faults.{Checked, Fault, Faults, OfMeta, OfNamed, OrChecked, Step, element, field, judge_of, under, unknown_field, within, wrong_length}
use Rattle.variable_values.specs.InTurn.{InTurn}
use Rattle.variable_values.specs.Keys.{field_names, keys_of, unknown_keys}
use Rattle.variable_values.specs.Rows.{Below, OfField, OfFields, OfItems, OfWhole}
use Rattle.variable_values.specs.Texts.{input_text}
use Rattle.variable_values.proofs.RowLaws.{OfLevel, at_roll, is_roll}

front_none : {R : Type 0} (xs ys : List R) → [] ≡ xs ++ ys → xs ≡ []
front_none [] ys e = refl
front_none (x ∷ xs) ys e = cc

back_none : {R : Type 0} (xs ys : List R) → [] ≡ xs ++ ys → ys ≡ []
back_none [] ys e = sym e
back_none (x ∷ xs) ys e = cc

mapped_none : {A B : Type 0} (f : A → B) (xs : List A) → [] ≡ map f xs → xs ≡ []
mapped_none f [] e = refl
mapped_none f (x ∷ xs) e = cc

-- where all together give nothing, each gives nothing
none_in_turn : {X R : Type 0} (gives : ℕ → X → List R → Type 0) (i : ℕ) (xs : List X) (j : ℕ) (x : X) → j < length xs → get_or xs j x ≡ x → InTurn gives i xs [] → (n : ℕ) × gives n x []
none_in_turn gives i [] j x here is t = absurd (omega arith)
none_in_turn {X} {R} gives i (y ∷ ys) zero x here is (f, r, g, t, e) = (i, subst (λ z. gives i z []) is (subst (gives i y) (front_none f r e) g))
none_in_turn {X} {R} gives i (y ∷ ys) (suc j) x here is (f, r, g, t, e) = none_in_turn gives (i + 1) ys j x (omega arith) is (subst (InTurn gives (i + 1) ys) (back_none f r e) t)

module _ {S C : Type 0} (schema : Catalog S C) (may : Answers (InputValue S) C) (text : S → List ℕ) (str_of : S → Option (List ℕ)) where
  accepts : (c : C) (value : InputValue S) (said : List ℕ → List ℕ) (accepted : List Fault) → Checked may c value said accepted [] → Accepts may c value
  accepts c value said accepted (inl p) = p.0
  accepts c value said accepted (inr q) = cc (q.2)

  or_none : (hs : List Fault) (c : C) (value : InputValue S) (said : List ℕ → List ℕ) → OrChecked may hs c value said [] → (hs ≡ []) × Accepts may c value
  or_none [] c value said h = (refl, accepts c value said [] h)
  or_none (g ∷ gs) c value said h = cc

  of_meta : (value : InputValue S) (x : v.InputValue-F S (InputValue S)) (meta : MetaTypeOf S C) (fs : List Fault) → value ≡ roll-InputValue S x → (value ≡ variant.Null → ⊥)
      → OfNamed schema may text str_of (λ y. y) (judge_of schema may text str_of) x value (Some meta) fs → OfMeta schema may text str_of (λ y. y) (judge_of schema may text str_of) x value meta fs
  of_meta value v.Null meta fs e n j = absurd (n (e ∙ variant.rolls-Null))
  of_meta value (v.Scalar s) meta fs e n j = j
  of_meta value (v.Enum s) meta fs e n j = j
  of_meta value (v.Variable s) meta fs e n j = j
  of_meta value (v.List s) meta fs e n j = j
  of_meta value (v.Object s) meta fs e n j = j

  -- an object's part of what its one level says
  of_entries : (value : InputValue S) (x : v.InputValue-F S (InputValue S)) (es : List (Entry (InputValue S))) (o : InputObjectMetaOf S C) (fs : List Fault) → entries_layer x ≡ Some es
      → OfNamed schema may text str_of (λ y. y) (judge_of schema may text str_of) x value (Some (k.InputObject o)) fs → OfWhole schema may text str_of o es value fs
  of_entries value v.Null es o fs e j = cc
  of_entries value (v.Scalar s) es o fs e j = cc
  of_entries value (v.Enum s) es o fs e j = cc
  of_entries value (v.Variable s) es o fs e j = cc
  of_entries value (v.List s) es o fs e j = cc
  of_entries value (v.Object s) es o fs e j = let same : s.items ≡ es = cc in subst (λ z. OfWhole schema may text str_of o z value fs) same j

  of_list : (value : InputValue S) (x : v.InputValue-F S (InputValue S)) (xs : List (Spanning (InputValue S) Span)) (size : Option ℕ) (ms : List TypeModifier) (name : List ℕ) → items_layer x ≡ Some xs
      → OfLevel schema may text str_of x value (m.List size ∷ ms) name [] → OfItems schema may text str_of (within ms name) xs []
  of_list value v.Null xs size ms name e j = cc
  of_list value (v.Scalar s) xs size ms name e j = cc
  of_list value (v.Enum s) xs size ms name e j = cc
  of_list value (v.Variable s) xs size ms name e j = cc
  of_list value (v.Object s) xs size ms name e j = cc
  of_list value (v.List s) xs size ms name e (gs, t, is) =
      let same : s.items ≡ xs = cc in
      subst (λ z. OfItems schema may text str_of (within ms name) z []) same (subst (OfItems schema may text str_of (within ms name) s.items) (back_none (wrong_length size (length s.items)) gs is) t)

  of_one : (value : InputValue S) (x : v.InputValue-F S (InputValue S)) (size : Option ℕ) (ms : List TypeModifier) (name : List ℕ) → value ≡ roll-InputValue S x → (value ≡ variant.Null → ⊥) → items_layer x ≡ None
      → OfLevel schema may text str_of x value (m.List size ∷ ms) name [] → OfLevel schema may text str_of x value ms name []
  of_one value v.Null size ms name e n l j = absurd (n (e ∙ variant.rolls-Null))
  of_one value (v.Scalar s) size ms name e n l (gs, j, is) = subst (OfLevel schema may text str_of (v.Scalar s) value ms name) (back_none (wrong_length size 1) gs is) j
  of_one value (v.Enum s) size ms name e n l (gs, j, is) = subst (OfLevel schema may text str_of (v.Enum s) value ms name) (back_none (wrong_length size 1) gs is) j
  of_one value (v.Variable s) size ms name e n l (gs, j, is) = subst (OfLevel schema may text str_of (v.Variable s) value ms name) (back_none (wrong_length size 1) gs is) j
  of_one value (v.Object s) size ms name e n l (gs, j, is) = subst (OfLevel schema may text str_of (v.Object s) value ms name) (back_none (wrong_length size 1) gs is) j
  of_one value (v.List s) size ms name e n l j = cc

  of_non_null : (value : InputValue S) (x : v.InputValue-F S (InputValue S)) (ms : List TypeModifier) (name : List ℕ) → OfLevel schema may text str_of x value (m.NonNull ∷ ms) name [] → OfLevel schema may text str_of x value ms name []
  of_non_null value v.Null ms name j = cc
  of_non_null value (v.Scalar s) ms name j = j
  of_non_null value (v.Enum s) ms name j = j
  of_non_null value (v.Variable s) ms name j = j
  of_non_null value (v.List s) ms name j = j
  of_non_null value (v.Object s) ms name j = j

  -- one level of a value without fault
  level : (value : InputValue S) (t : TypeShape) (fs : List Fault) → Faults schema may text str_of value t fs → OfLevel schema may text str_of (out-InputValue S value) value (reverse t.modifiers) t.name fs
  level value t fs h = transport (at_roll schema may text str_of value (out-InputValue S value) t fs (is_roll schema may text str_of value (out-InputValue S value) refl)) h

  below_none : (step : Step) (t : TypeShape) (value : InputValue S) → Below schema may text str_of step t value [] → Faults schema may text str_of value t []
  below_none step t value (gs, h, e) = subst (Faults schema may text str_of value t) (mapped_none (under step) gs e) h

  accepted : {value : InputValue S} {ms : List TypeModifier} {name : List ℕ} {c : C} {inner : InputValue S} → Asks schema value ms name c inner → OfLevel schema may text str_of (out-InputValue S value) value ms name [] → Accepts may c inner
  accepted (of_scalar value name s n e) j =
      let told = of_meta value (out-InputValue S value) (k.Scalar s) [] (is_roll schema may text str_of value (out-InputValue S value) refl) n
      (subst (λ o. OfNamed schema may text str_of (λ y. y) (judge_of schema may text str_of) (out-InputValue S value) value o []) e j) in
      accepts _ value _ _ told
  accepted (of_object value name o es h e) j =
      let whole = of_entries value (out-InputValue S value) es o [] h (subst (λ q. OfNamed schema may text str_of (λ y. y) (judge_of schema may text str_of) (out-InputValue S value) value q []) e j) in
      (or_none (whole.0 ++ map unknown_field (unknown_keys (field_names o.input_fields.items) (keys_of es))) (input_object_check o) value (input_text (string_bytes o.name) (printed_value text str_of value)) whole.2).1
  accepted (at_field value name o es a x c inner h e among last asks) j =
      let whole = of_entries value (out-InputValue S value) es o [] h (subst (λ q. OfNamed schema may text str_of (λ y. y) (judge_of schema may text str_of) (out-InputValue S value) value q []) e j) in
      let unknown = map unknown_field (unknown_keys (field_names o.input_fields.items) (keys_of es)) in
      let none = or_none (whole.0 ++ unknown) (input_object_check o) value (input_text (string_bytes o.name) (printed_value text str_of value)) whole.2 in
      let fields = subst (OfFields schema may text str_of o.input_fields.items es) (front_none whole.0 unknown (sym none.0)) whole.1 in
      let one = none_in_turn (λ (i : ℕ) (b : Argument S). OfField schema may text str_of b (last_value (string_bytes b.name) es)) 0 o.input_fields.items among.0 a among.1 among.2 fields in
      accepted asks (level x (shape a.arg_type) [] (below_none (field (string_bytes a.name)) (shape a.arg_type) x (subst (λ q. OfField schema may text str_of a q []) last one.1)))
  accepted (at_item value size ms name xs x c inner h among asks) j =
      let items = of_list value (out-InputValue S value) xs size ms name h j in
      let one = none_in_turn (λ (i : ℕ) (y : Spanning (InputValue S) Span). Below schema may text str_of (element i) (within ms name) y.item) 0 xs among.0 x among.1 among.2 items in
      let told = level x.item (within ms name) [] (below_none (element one.0) (within ms name) x.item one.1) in
      accepted asks (subst (λ ns. OfLevel schema may text str_of (out-InputValue S x.item) x.item ns name []) (reverse-reverse ms) told)
  accepted (alone value size ms name c inner n l asks) j =
      accepted asks (of_one value (out-InputValue S value) size ms name (is_roll schema may text str_of value (out-InputValue S value) refl) n l j)
  accepted (non_null value ms name c inner asks) j = accepted asks (of_non_null value (out-InputValue S value) ms name j)

  pub accepted_where_asked : AcceptedWhereAsked schema may text str_of
  accepted_where_asked value t c inner h asks = accepted asks (level value t [] h)
