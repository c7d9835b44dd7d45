-- Objects, field by field and whole.
use Rattle.std.proofs.Common.{◌≡◌, ℕ, List, [], ◌∷◌, ◌++◌, Option, None, map, string_bytes, refl, ap, sym, ◌∙◌, subst}
use Rattle.std.specs.Prelude.{Vec}
use Rattle.std.specs.declared.alloc.Global.{Global}
use Rattle.language_values.specs.declared.value.InputValue.{InputValue, out-InputValue, out-roll-InputValue, roll-InputValue, roll-out-InputValue}
use Rattle.language_values.specs.declared.value.InputValue.TheOpen as v
use Rattle.language_values.specs.declared.value.InputValue.TheVariants as variant
use Rattle.language_values.specs.Values.{Entry}
use Rattle.language_values.specs.ValuesPrinted.{printed_value}
use Rattle.meta.specs.Answers.{Answers}
use Rattle.meta.specs.Kept.{input_object_check}
use Rattle.meta.specs.declared.arguments.Argument.{Argument}
use Rattle.meta.specs.declared.inputs.InputObjectMetaOf.{InputObjectMetaOf}
use Rattle.meta.specs.declared.kinds.MetaTypeOf.{MetaTypeOf}
use Rattle.meta.specs.declared.kinds.MetaTypeOf.TheVariants as k
use Rattle.schema.specs.Catalog.{Catalog}
use Rattle.variable_values.specs.Faults.{Checked, Fault, OfInput, OrChecked, field, here, judge_of, left_out, under, unknown_field}
use Rattle.variable_values.specs.Keys.{field_names, keys_of, unknown_keys}
use Rattle.variable_values.specs.Rows.{ByMeta, OfField, OfFields, OfWhole}
use Rattle.variable_values.specs.Texts.{input_text, no_object_text}

module _ {S C : Type 0} (schema : Catalog S C) (may : Answers (InputValue S) C) (text : S → List ℕ) (str_of : S → Option (List ℕ)) where
  -- a field without a value
  pub field_none : (a : Argument S) (fs : List Fault) → (gs : List Fault) × (gs ≡ left_out schema a) × (fs ≡ map (under (field (string_bytes a.name))) gs) → OfField schema may text str_of a None fs
  field_none a fs (gs, g, f) = f ∙ ap (map (under (field (string_bytes a.name)))) g

  or_some : (hs : List Fault) (c : C) (value : InputValue S) (said : List ℕ → List ℕ) → (hs ≡ [] → ⊥) → OrChecked may hs c value said hs
  or_some [] c value said n = absurd (n refl)
  or_some (h ∷ hs) c value said n = refl

  -- an object whose fields and keys have faults
  pub whole_some : (o : InputObjectMetaOf S C) (es : List (Entry (InputValue S))) (value : InputValue S) (gs : List Fault) → OfFields schema may text str_of o.input_fields.items es gs
      → (gs ++ map unknown_field (unknown_keys (field_names o.input_fields.items) (keys_of es)) ≡ [] → ⊥) → OfWhole schema may text str_of o es value (gs ++ map unknown_field (unknown_keys (field_names o.input_fields.items) (keys_of es)))
  whole_some o es value gs at n = (gs, at, or_some _ _ _ _ n)

  -- an object whose fields and keys have none
  pub whole_none : (o : InputObjectMetaOf S C) (es : List (Entry (InputValue S))) (value : InputValue S) (gs fs : List Fault) → OfFields schema may text str_of o.input_fields.items es gs
      → gs ++ map unknown_field (unknown_keys (field_names o.input_fields.items) (keys_of es)) ≡ [] → Checked may (input_object_check o) value (input_text (string_bytes o.name) (printed_value text str_of value)) [] fs → OfWhole schema may text str_of o es value fs
  whole_none o es value gs fs at n h = (gs, at, subst (λ hs. OrChecked may hs (input_object_check o) value (input_text (string_bytes o.name) (printed_value text str_of value)) fs) (sym n) h)

  out_object : (value : InputValue S) (es : Vec (Entry (InputValue S)) Global) → value ≡ variant.Object es → out-InputValue S value ≡ v.Object es
  out_object value es e = ap (out-InputValue S) (e ∙ sym (variant.rolls-Object es)) ∙ out-roll-InputValue S (v.Object es)

  -- an object against an input object
  pub by_object : (value : InputValue S) (es : Vec (Entry (InputValue S)) Global) (meta : MetaTypeOf S C) (o : InputObjectMetaOf S C) (ys : List (Entry (InputValue S))) (fs : List Fault) → value ≡ variant.Object es → meta ≡ k.InputObject o → ys ≡ es.items
      → OfWhole schema may text str_of o ys value fs → ByMeta schema may text str_of value meta fs
  by_object value es meta o ys fs e is same h =
      subst (λ t. ByMeta schema may text str_of value t fs) (sym is)
      (subst (λ x. OfInput schema may text str_of (λ y. y) (judge_of schema may text str_of) x o value fs) (sym (out_object value es e)) (subst (λ zs. OfWhole schema may text str_of o zs value fs) same h))

  no_object_at : (value : InputValue S) (x : v.InputValue-F S (InputValue S)) (o : InputObjectMetaOf S C) (fs : List Fault) → value ≡ roll-InputValue S x → ((es : Vec (Entry (InputValue S)) Global) → value ≡ variant.Object es → ⊥) → fs ≡ here (no_object_text (string_bytes o.name)) ∷ []
      → OfInput schema may text str_of (λ y. y) (judge_of schema may text str_of) x o value fs
  no_object_at value v.Null o fs e n f = f
  no_object_at value (v.Scalar s) o fs e n f = f
  no_object_at value (v.Enum s) o fs e n f = f
  no_object_at value (v.Variable s) o fs e n f = f
  no_object_at value (v.List s) o fs e n f = f
  no_object_at value (v.Object s) o fs e n f = absurd (n s (e ∙ variant.rolls-Object s))

  -- another value
  pub by_no_object : (value : InputValue S) (meta : MetaTypeOf S C) (o : InputObjectMetaOf S C) (fs : List Fault) → ((es : Vec (Entry (InputValue S)) Global) → value ≡ variant.Object es → ⊥) → meta ≡ k.InputObject o → fs ≡ here (no_object_text (string_bytes o.name)) ∷ []
      → ByMeta schema may text str_of value meta fs
  by_no_object value meta o fs n is f =
      subst (λ t. ByMeta schema may text str_of value t fs) (sym is) (no_object_at value (out-InputValue S value) o fs (sym (roll-out-InputValue S value)) n f)
