-- Values that conform have no fault.
use Rattle.std.proofs.Common.{◌≡◌, ℕ, List, [], ◌∷◌, ◌++◌, Bool, true, false, Contains, Option, Some, None, String, map, length, string_bytes, refl, ap, sym, ◌∙◌, inl, subst, if◌then◌else◌}
use Rattle.std.specs.declared.alloc.Global.{Global}
use Rattle.std.proofs.lemmas.Bool.{eq-eqb}
use Rattle.language_types.specs.declared.position.Span.{Span}
use Rattle.language_types.specs.declared.position.Spanning.{Spanning}
use Rattle.language_types.specs.declared.types.TypeModifier.{TypeModifier}
use Rattle.language_types.specs.declared.types.TypeModifier.TheVariants as m
use Rattle.language_values.specs.declared.value.InputValue.{InputValue, out-InputValue, out-roll-InputValue}
use Rattle.language_values.specs.declared.value.InputValue.TheOpen as v
use Rattle.language_values.specs.declared.value.InputValue.TheVariants as variant
use Rattle.language_types.specs.Types.{IsNonNull, TypeShape, by_outermost, inner_of, nullable_named, outermost, printed, shape, wrapped_by}
use Rattle.language_values.specs.Values.{Entry, last_value, entries_layer, items_layer}
use Rattle.meta.specs.Answers.{Answers, Accepts}
use Rattle.meta.specs.Kept.{scalar_check, input_object_check}
use Rattle.meta.specs.declared.arguments.Argument.{Argument}
use Rattle.meta.specs.declared.enums.EnumMetaOf.{EnumMetaOf}
use Rattle.meta.specs.declared.inputs.InputObjectMetaOf.{InputObjectMetaOf}
use Rattle.meta.specs.declared.kinds.MetaTypeOf.{MetaTypeOf}
use Rattle.meta.specs.declared.kinds.MetaTypeOf.TheVariants as k
use Rattle.meta.specs.declared.scalars.ScalarMetaOf.{ScalarMetaOf}
use Rattle.schema.specs.Catalog.{Catalog, type_in}
use Rattle.variable_values.specs.Faults.{Faults, OfNamed, element, enum_faults, field, here, judge_of, under, unknown_field, whole_faults, wrong_length}
use Rattle.variable_values.specs.Dialects.{is_needed, takes_any_value}
use Rattle.variable_values.specs.Keys.{field_names, keys_of}
use Rattle.variable_values.specs.Rows.{Below, ByName, OfField, OfFields, OfItems, OfWhole, SaysItems}
use Rattle.variable_values.specs.Texts.{enum_text, length_text, null_text}
use Rattle.variable_values.proofs.RowLaws.{free_row, items_row, moved, named_row, non_null_row, null_by_name, single_row, unwrapped}
use Rattle.variable_values.proofs.ObjectLaws.{whole_none}
use Rattle.variable_values_laws.specs.Conforms.{Conforms, HasLength, enum_string, enum_value, input_object, list, non_null, nothing, null, scalar, single, value_names}
use Rattle.variable_values_laws.proofs.Keys.{among_contained, none_unknown}
use Rattle.variable_values_laws.proofs.Parts.{in_turn_none}

-- what is only of non-null types is not of others
pub by_nullable : {A : Type 0} (x y : A) (o : Option TypeModifier) → ¬ (o ≡ Some m.NonNull) → by_outermost x y y o ≡ y
by_nullable x y None n = refl
by_nullable x y (Some m.NonNull) n = absurd (n refl)
by_nullable x y (Some (m.List size)) n = refl

right_length : (size : Option ℕ) (found : ℕ) → ((n : ℕ) → size ≡ Some n → found ≡ n) → wrong_length size found ≡ []
right_length None found h = refl
right_length (Some n) found h = ap (λ b. if b then [] else here (length_text n found) ∷ []) (eq-eqb n found (sym (h n refl)))

-- neither a list nor an object
abbrev IsPlainLevel : {S : Type 0} → v.InputValue-F S (InputValue S) → Type 0
IsPlainLevel x = (items_layer x ≡ None) × (entries_layer x ≡ None)

plain_whole : {S : Type 0} (name : List ℕ) (x : v.InputValue-F S (InputValue S)) → IsPlainLevel x → [] ≡ whole_faults name x
plain_whole name v.Null p = refl
plain_whole name (v.Scalar z) p = refl
plain_whole name (v.Enum z) p = refl
plain_whole name (v.Variable z) p = refl
plain_whole name (v.List z) (l, e) = cc
plain_whole name (v.Object z) (l, e) = cc

taken : {S : Type 0} (any : Bool) (name : List ℕ) (x : v.InputValue-F S (InputValue S)) → (any ≡ false → IsPlainLevel x) → [] ≡ (if any then [] else whole_faults name x)
taken true name x p = refl
taken false name x p = plain_whole name x (p refl)

module _ {S C : Type 0} (schema : Catalog S C) (may : Answers (InputValue S) C) (text : S → List ℕ) (str_of : S → Option (List ℕ)) where
  -- a value, or none, has no fault
  abbrev pub NoFault : Option (InputValue S) → TypeShape → Type 0
  NoFault None t = ¬ (IsNonNull t)
  NoFault (Some value) t = Faults schema may text str_of value t []

  of_null : (t : TypeShape) (o : Option TypeModifier) → outermost t.modifiers ≡ o → ¬ (IsNonNull t) → NoFault (Some variant.Null) t
  of_null t None e n = named_row schema may text str_of variant.Null t t.name [] e refl (null_by_name schema may text str_of variant.Null (type_in t.name schema) [] refl refl)
  of_null t (Some m.NonNull) e n = absurd (n e)
  of_null t (Some (m.List size)) e n =
      moved schema may text str_of variant.Null t (wrapped_by (m.List size) (inner_of t)) [] (unwrapped t (m.List size) e) (free_row schema may text str_of variant.Null size (inner_of t) [] refl refl)

  of_list : (value : InputValue S) (size : Option ℕ) (t : TypeShape) (xs : List (Spanning (InputValue S) Span)) → Some xs ≡ items_layer (out-InputValue S value) → HasLength xs size
      → ((x : Spanning (InputValue S) Span) → Contains xs x → NoFault (Some x.item) t) → NoFault (Some value) (wrapped_by (m.List size) t)
  of_list value size t xs is len each =
      let items : OfItems schema may text str_of t xs [] =
      in_turn_none (λ (i : ℕ) (x : Spanning (InputValue S) Span). Below schema may text str_of (element i) t x.item) 0 xs (λ i x c. ([], each x c, refl)) in
      items_row schema may text str_of value size t [] (subst (λ o. SaysItems schema may text str_of o t size []) is ([], items, ap (λ z. z ++ []) (sym (right_length size (length xs) len))))

  -- against a name, by what the schema has under it
  abbrev Named : v.InputValue-F S (InputValue S) → InputValue S → MetaTypeOf S C → Type 0
  Named x value meta = OfNamed schema may text str_of (λ y. y) (judge_of schema may text str_of) x value (Some meta) []

  of_name : (value : InputValue S) (name : List ℕ) (meta : MetaTypeOf S C) → type_in name schema ≡ Some meta → Named (out-InputValue S value) value meta → NoFault (Some value) (nullable_named name)
  of_name value name meta e h = named_row schema may text str_of value (nullable_named name) name [] refl refl (subst (λ o. ByName schema may text str_of value o []) (sym e) h)

  of_scalar : (value : InputValue S) (x : v.InputValue-F S (InputValue S)) (s : ScalarMetaOf C) → (takes_any_value schema s ≡ false → IsPlainLevel x) → Accepts may (scalar_check s) value → Named x value (k.Scalar s)
  of_scalar value v.Null s p a = refl
  of_scalar value (v.Scalar z) s p a = inl (a, taken (takes_any_value schema s) (string_bytes s.name) (v.Scalar z) p)
  of_scalar value (v.Enum z) s p a = inl (a, taken (takes_any_value schema s) (string_bytes s.name) (v.Enum z) p)
  of_scalar value (v.Variable z) s p a = inl (a, taken (takes_any_value schema s) (string_bytes s.name) (v.Variable z) p)
  of_scalar value (v.List z) s p a = inl (a, taken (takes_any_value schema s) (string_bytes s.name) (v.List z) p)
  of_scalar value (v.Object z) s p a = inl (a, taken (takes_any_value schema s) (string_bytes s.name) (v.Object z) p)

  named_value : (name n : List ℕ) (names : List (List ℕ)) → Contains names n → [] ≡ enum_faults name names (Some n)
  named_value name n names c = sym (ap (λ b. if b then [] else here (enum_text name) ∷ []) (among_contained names n c))

  of_enum : (s : String Global) (e : EnumMetaOf C) → Contains (value_names e) (string_bytes s) → Named (out-InputValue S (variant.Enum s)) (variant.Enum s) (k.Enum e)
  of_enum s e c =
      subst (λ x. Named x (variant.Enum s) (k.Enum e)) (sym (ap (out-InputValue S) (sym (variant.rolls-Enum s)) ∙ out-roll-InputValue S (v.Enum s))) (named_value (string_bytes e.name) (string_bytes s) (value_names e) c)

  of_string : (s : S) (n : List ℕ) (e : EnumMetaOf C) → str_of s ≡ Some n → Contains (value_names e) n → Named (out-InputValue S (variant.Scalar s)) (variant.Scalar s) (k.Enum e)
  of_string s n e is c =
      subst (λ x. Named x (variant.Scalar s) (k.Enum e)) (sym (ap (out-InputValue S) (sym (variant.rolls-Scalar s)) ∙ out-roll-InputValue S (v.Scalar s)))
      (named_value (string_bytes e.name) n (value_names e) c ∙ ap (enum_faults (string_bytes e.name) (value_names e)) (sym is))

  of_object : (value : InputValue S) (x : v.InputValue-F S (InputValue S)) (o : InputObjectMetaOf S C) (es : List (Entry (InputValue S))) → entries_layer x ≡ Some es → OfWhole schema may text str_of o es value [] → Named x value (k.InputObject o)
  of_object value v.Null o es e h = cc
  of_object value (v.Scalar z) o es e h = cc
  of_object value (v.Enum z) o es e h = cc
  of_object value (v.Variable z) o es e h = cc
  of_object value (v.List z) o es e h = cc
  of_object value (v.Object z) o es e h = let same : es ≡ z.items = cc in subst (λ y. OfWhole schema may text str_of o y value []) same h

  at_field : (a : Argument S) (o : Option (InputValue S)) → (o ≡ None → is_needed schema a ≡ false) → ((x : InputValue S) → o ≡ Some x → NoFault (Some x) (shape a.arg_type)) → OfField schema may text str_of a o []
  at_field a None n h = ap (λ b. map (under (field (string_bytes a.name))) (if b then here (null_text (printed (shape a.arg_type))) ∷ [] else [])) (sym (n refl))
  at_field a (Some x) n h = ([], h x refl, refl)

  of_fields : (o : InputObjectMetaOf S C) (es : List (Entry (InputValue S))) (value : InputValue S) → ((key : List ℕ) → Contains (keys_of es) key → Contains (field_names o.input_fields.items) key)
      → ((a : Argument S) → Contains o.input_fields.items a → last_value (string_bytes a.name) es ≡ None → is_needed schema a ≡ false)
      → ((a : Argument S) (x : InputValue S) → Contains o.input_fields.items a → last_value (string_bytes a.name) es ≡ Some x → NoFault (Some x) (shape a.arg_type)) → Accepts may (input_object_check o) value → OfWhole schema may text str_of o es value []
  of_fields o es value known needed each a =
      let fields : OfFields schema may text str_of o.input_fields.items es [] =
      in_turn_none (λ (i : ℕ) (b : Argument S). OfField schema may text str_of b (last_value (string_bytes b.name) es)) 0 o.input_fields.items (λ i b c. at_field b (last_value (string_bytes b.name) es) (needed b c) (λ x is. each b x c is)) in
      whole_none schema may text str_of o es value [] [] fields (ap (map unknown_field) (none_unknown (field_names o.input_fields.items) (keys_of es) known)) (inl (a, refl))

  pub no_fault : {o : Option (InputValue S)} {t : TypeShape} → Conforms schema may str_of o t → NoFault o t
  no_fault (nothing t n) = n
  no_fault (null t n) = of_null t (outermost t.modifiers) refl n
  no_fault (non_null value t n h) = non_null_row schema may text str_of value t [] n (no_fault h)
  no_fault (list value size t xs is len each) = of_list value size t xs (sym is) len (λ x c. no_fault (each x c))
  no_fault (single value size t n l one h) =
      subst (Faults schema may text str_of value (wrapped_by (m.List size) t)) (ap (λ z. z ++ []) (right_length size 1 one)) (single_row schema may text str_of value size t [] n l (no_fault h))
  no_fault (scalar value name s e p a) = of_name value name (k.Scalar s) e (of_scalar value (out-InputValue S value) s p a)
  no_fault (enum_value s name e is c) = of_name (variant.Enum s) name (k.Enum e) is (of_enum s e c)
  no_fault (enum_string s n name e is str c) = of_name (variant.Scalar s) name (k.Enum e) is (of_string s n e str c)
  no_fault (input_object value name o es e is known needed each a) =
      of_name value name (k.InputObject o) e (of_object value (out-InputValue S value) o es is (of_fields o es value known needed (λ b x c last. no_fault (each b x c last)) a))
