-- A value has a fault against a type of the schema, or conforms to it, if each check answers.
use Rattle.std.proofs.Common.{◌≡◌, ℕ, List, [], ◌∷◌, Bool, true, false, Option, Some, None, option_map, is_some, length, reverse, refl, sym, inl, inr, ◌⊎◌}
use Rattle.std.proofs.Math.Path.{transport}
use Rattle.language_types.specs.declared.position.Span.{Span}
use Rattle.language_types.specs.declared.position.Spanning.{Spanning}
use Rattle.language_types.specs.declared.types.TypeModifier.{TypeModifier}
use Rattle.language_types.specs.declared.types.TypeModifier.TheVariants as m
use Rattle.language_values.specs.declared.value.InputValue.{InputValue, roll-InputValue}
use Rattle.language_values.specs.declared.value.InputValue.TheOpen as v
use Rattle.language_values.specs.declared.value.InputValue.TheVariants as variant
use Rattle.language_values.specs.Each.{Each}
use Rattle.language_types.specs.Types.{shape}
use Rattle.language_values.specs.Values.{Entry}
use Rattle.language_values.proofs.ValueInduction.{value_induction}
use Rattle.meta.specs.declared.arguments.Argument.{Argument}
use Rattle.meta.specs.declared.kinds.MetaTypeOf.{MetaTypeOf}
use Rattle.meta.specs.Answers.{Answers, Accepts, RefusesWith}
use Rattle.meta.specs.Kinds.{check_of_meta, input_field_named, name_of_meta}
use Rattle.schema.specs.Catalog.{Catalog, type_in}
use Rattle.schema_validation.specs.Names.{argument_type}
use Rattle.schema.specs.Wrapped.{WrappedMeta}
use Rattle.schema.proofs.AcceptedLemmas.{find-called}
use Rattle.literals.specs.AnyLiteral.{takes_any}
use Rattle.literals.specs.FirstFault.{Telling, FirstFault}
use Rattle.literals.specs.InSchema.{IsInSchema}
use Rattle.literals.specs.Judged.{Is, IsNone, Judged, LacksFields, against_name, checked, entry, is_enum_meta, is_input_object_meta, judge_of, key_of, keyed, keys_of, object, other_length, printed_name, sized, unless_any, unless_enum, within}
use Rattle.literals.specs.Laws.{AnswersAll, SomeFault}
use Rattle.literals.specs.Texts.{field_text, list_text}
use Rattle.literals.proofs.FieldTypes.{field_listed}
use Rattle.literals.proofs.OneFault.{each_of}
use Rattle.literals.proofs.RowLaws.{Against, at_roll}

-- some result for a thing
abbrev pub SomeTold : (Option (List ℕ) → Type 0) → Type 0
SomeTold told = (f : Option (List ℕ)) × told f

before : {X : Type 0} (tells : Telling X) (at_end : Option (List ℕ) → Type 0) (x : X) (xs : List X) (f : Option (List ℕ)) → tells x f → SomeTold (FirstFault tells at_end xs) → SomeTold (FirstFault tells at_end (x ∷ xs))
before tells at_end x xs None told rest = (rest.0, inr (told, rest.1))
before tells at_end x xs (Some said) told rest = (Some said, inl (told, refl))

some_first : {X : Type 0} (tells : Telling X) (at_end : Option (List ℕ) → Type 0) → SomeTold at_end → (xs : List X) → Each (λ x. SomeTold (tells x)) xs → SomeTold (FirstFault tells at_end xs)
some_first tells at_end e [] h = e
some_first tells at_end e (x ∷ xs) (h, hs) = before tells at_end x xs h.0 h.1 (some_first tells at_end e xs hs)

there_is : {A : Type 0} (o : Option A) → is_some o ≡ true → (x : A) × (o ≡ Some x)
there_is None h = cc
there_is (Some x) h = (x, refl)

module _ {S C : Type 0} (schema : Catalog S C) (may : Answers (InputValue S) C) (shown : InputValue S → List ℕ) (all : AnswersAll may) where
  answered : (c : C) (value : InputValue S) (meta : MetaTypeOf S C) → Accepts may c value ⊎ ((m : List ℕ) × RefusesWith may c value m) → SomeTold (checked may shown (Some c) value meta)
  answered c value meta (inl accepts) = (None, accepts)
  answered c value meta (inr refused) = (Some _, (refl, refused.0, refused.1))

  some_checked : (o : Option C) (value : InputValue S) (meta : MetaTypeOf S C) → SomeTold (checked may shown o value meta)
  some_checked None value meta = (Some _, refl)
  some_checked (Some c) value meta = answered c value meta (all c value)

  some_scalar : (b : Bool) (value : InputValue S) (meta : MetaTypeOf S C) → SomeTold (unless_enum may shown b value meta)
  some_scalar true value meta = (Some _, refl)
  some_scalar false value meta = some_checked (check_of_meta meta) value meta

  some_unless_any : (b : Bool) (value : InputValue S) (meta : MetaTypeOf S C) (told : Option (List ℕ) → Type 0) → SomeTold told → SomeTold (λ f. unless_any may shown b value meta f (told f))
  some_unless_any true value meta told h = some_checked (check_of_meta meta) value meta
  some_unless_any false value meta told h = h

  some_sized : (o : Option ℕ) (found : ℕ) (value : InputValue S) (told : Option (List ℕ) → Type 0) → SomeTold told → SomeTold (λ f. sized may shown o found value f (told f))
  some_sized None found value told h = h
  some_sized (Some wanted) found value told h = (Some _, refl)

  -- at every type of the schema
  abbrev Defined : InputValue S → Type 0
  Defined value = (w : WrappedMeta S C) → IsInSchema schema w → SomeTold (Judged schema may shown value w)

  some_keyed : (n : List ℕ) (meta : MetaTypeOf S C) → type_in n schema ≡ Some meta → (key : List ℕ) (o : Option (Argument S)) → input_field_named key meta ≡ o → (value : InputValue S) → Defined value → SomeTold (keyed schema may shown (λ y. y) (judge_of schema may shown) meta key o value)
  some_keyed n meta known key None e value h = (Some _, refl)
  some_keyed n meta known key (Some a) e value h =
      let there = there_is (type_in (argument_type a) schema) (find-called name_of_meta schema.types (argument_type a) (field_listed schema n key meta a known e)) in
      let w : WrappedMeta S C = record { meta = there.0; modifiers = (shape a.arg_type).modifiers } in
      let told = h w (argument_type a, there.1) in
      (option_map (field_text (printed_name meta) key) told.0, (w, (there.1, refl), told.0, told.1, refl))

  abbrev Inside : v.InputValue-F S (InputValue S) → Type 0
  Inside (v.List xs) = Each (λ x. Defined x.item) xs.items
  Inside (v.Object es) = Each (λ e. Defined e.1.item) es.items
  Inside _ = Unit {0}

  some_object : (b : Bool) (n : List ℕ) (meta : MetaTypeOf S C) → type_in n schema ≡ Some meta → (es : List (Entry (InputValue S))) → Each (λ e. Defined e.1.item) es → SomeTold (object schema may shown (λ y. y) (judge_of schema may shown) b meta es)
  some_object false n meta known es h = (Some _, refl)
  some_object true n meta known es h =
      some_first (entry schema may shown (λ y. y) (judge_of schema may shown) meta) (LacksFields meta (keys_of es)) (_, refl) es
      (each_of (λ (e : Entry (InputValue S)). Defined e.1.item) (λ e. SomeTold (entry schema may shown (λ y. y) (judge_of schema may shown) meta e)) (λ e. some_keyed n meta known (key_of e) (input_field_named (key_of e) meta) refl e.1.item) es h)

  some_named : (x : v.InputValue-F S (InputValue S)) (value : InputValue S) (n : List ℕ) (meta : MetaTypeOf S C) → type_in n schema ≡ Some meta → Inside x → SomeTold (against_name schema may shown (λ y. y) (judge_of schema may shown) x value meta)
  some_named v.Null value n meta known h = (None, refl)
  some_named (v.Variable s) value n meta known h = (None, refl)
  some_named (v.Scalar s) value n meta known h = some_scalar (is_enum_meta meta) value meta
  some_named (v.Enum s) value n meta known h = some_checked (check_of_meta meta) value meta
  some_named (v.List xs) value n meta known h = some_unless_any (takes_any schema meta) value meta (Is list_text) (Some list_text, refl)
  some_named (v.Object es) value n meta known h =
      some_unless_any (takes_any schema meta) value meta (object schema may shown (λ y. y) (judge_of schema may shown) (is_input_object_meta meta) meta es.items) (some_object (is_input_object_meta meta) n meta known es.items h)

  some_against : (x : v.InputValue-F S (InputValue S)) (value : InputValue S) (ms : List TypeModifier) (n : List ℕ) (meta : MetaTypeOf S C) → type_in n schema ≡ Some meta → Inside x → SomeTold (Against schema may shown x value ms meta)
  some_against x value [] n meta known h = some_named x value n meta known h
  some_against v.Null value (m.NonNull ∷ ms) n meta known h = (Some _, refl)
  some_against (v.Variable s) value (m.NonNull ∷ ms) n meta known h = some_against (v.Variable s) value ms n meta known h
  some_against (v.Scalar s) value (m.NonNull ∷ ms) n meta known h = some_against (v.Scalar s) value ms n meta known h
  some_against (v.Enum s) value (m.NonNull ∷ ms) n meta known h = some_against (v.Enum s) value ms n meta known h
  some_against (v.List xs) value (m.NonNull ∷ ms) n meta known h = some_against (v.List xs) value ms n meta known h
  some_against (v.Object es) value (m.NonNull ∷ ms) n meta known h = some_against (v.Object es) value ms n meta known h
  some_against v.Null value (m.List size ∷ ms) n meta known h = (None, refl)
  some_against (v.Variable s) value (m.List size ∷ ms) n meta known h = (None, refl)
  some_against (v.Scalar s) value (m.List size ∷ ms) n meta known h = some_sized (other_length size 1) 1 value (Against schema may shown (v.Scalar s) value ms meta) (some_against (v.Scalar s) value ms n meta known h)
  some_against (v.Enum s) value (m.List size ∷ ms) n meta known h = some_sized (other_length size 1) 1 value (Against schema may shown (v.Enum s) value ms meta) (some_against (v.Enum s) value ms n meta known h)
  some_against (v.Object es) value (m.List size ∷ ms) n meta known h = some_sized (other_length size 1) 1 value (Against schema may shown (v.Object es) value ms meta) (some_against (v.Object es) value ms n meta known h)
  some_against (v.List xs) value (m.List size ∷ ms) n meta known h =
      some_sized (other_length size (length xs.items)) (length xs.items) value (FirstFault (λ x. Judged schema may shown x.item (within ms meta)) IsNone xs.items)
      (some_first (λ x. Judged schema may shown x.item (within ms meta)) IsNone (None, refl) xs.items
      (each_of (λ (x : Spanning (InputValue S) Span). Defined x.item) (λ x. SomeTold (Judged schema may shown x.item (within ms meta))) (λ x k. k (within ms meta) (n, known)) xs.items h))

  some_at : (value : InputValue S) (x : v.InputValue-F S (InputValue S)) → value ≡ roll-InputValue S x → Inside x → Defined value
  some_at value x e h w known =
      let told = some_against x value (reverse w.modifiers) known.0 w.meta known.1 h in
      (told.0, transport (sym (at_roll schema may shown value x w told.0 e)) told.1)

  -- a value has some fault, or none
  pub some_fault : SomeFault schema may shown
  some_fault =
      value_induction Defined
      (some_at _ v.Null (sym variant.rolls-Null) tt)
      (λ s. some_at _ (v.Scalar s) (sym (variant.rolls-Scalar s)) tt)
      (λ n. some_at _ (v.Enum n) (sym (variant.rolls-Enum n)) tt)
      (λ n. some_at _ (v.Variable n) (sym (variant.rolls-Variable n)) tt)
      (λ xs h. some_at _ (v.List xs) (sym (variant.rolls-List xs)) h)
      (λ es h. some_at _ (v.Object es) (sym (variant.rolls-Object es)) h)
