-- A value has one list of faults against a type.
use Rattle.std.proofs.Common.{◌≡◌, ℕ, ◌+◌, List, [], ◌∷◌, ◌++◌, Option, Some, None, map, length, reverse, string_bytes, refl, ap, sym, ◌∙◌, inl, inr, subst}
use Rattle.std.proofs.Math.Path.{transport}
use Rattle.language_types.specs.declared.position.Span.{Span}
use Rattle.language_types.specs.declared.position.Spanning.{Spanning}
use Rattle.language_types.specs.declared.types.TypeModifier.{TypeModifier}
use Rattle.language_types.specs.declared.types.TypeModifier.TheVariants as m
use Rattle.language_values.specs.declared.value.InputValue.{InputValue, roll-InputValue}
use Rattle.language_values.specs.declared.value.InputValue.TheOpen as v
use Rattle.language_values.specs.declared.value.InputValue.TheVariants as variant
use Rattle.language_values.specs.Each.{Each}
use Rattle.language_types.specs.Types.{TypeShape, shape}
use Rattle.language_values.specs.Values.{Entry, last_value}
use Rattle.language_values.specs.ValuesPrinted.{printed_value}
use Rattle.language_values.proofs.ValueInduction.{value_induction}
use Rattle.meta.specs.Answers.{Answers}
use Rattle.meta.specs.Kept.{input_object_check, scalar_check}
use Rattle.meta.specs.declared.arguments.Argument.{Argument}
use Rattle.meta.specs.declared.inputs.InputObjectMetaOf.{InputObjectMetaOf}
use Rattle.meta.specs.declared.kinds.MetaTypeOf.{MetaTypeOf}
use Rattle.meta.specs.declared.kinds.MetaTypeOf.TheVariants as k
use Rattle.schema.specs.Catalog.{Catalog, type_in}
use Rattle.variable_values.specs.Faults.{Checked, Fault, Faults, OfInput, OfMeta, OfNamed, OrChecked, Step, accepted_faults, element, field, here, judge_of, under, unknown_field, within, wrong_length}
use Rattle.variable_values.specs.InTurn.{InTurn}
use Rattle.variable_values.specs.Keys.{field_names, keys_of, unknown_keys}
use Rattle.variable_values.specs.Laws as law
use Rattle.variable_values.specs.Laws.{OneAnswer}
use Rattle.variable_values.specs.Rows.{Below, OfField, OfWhole}
use Rattle.variable_values.specs.Texts.{input_text, scalar_text}
use Rattle.variable_values.proofs.LastValues.{each-at, last_entry}
use Rattle.variable_values.proofs.RowLaws.{OfLevel, at_roll}

-- of two lists that are told of one thing
abbrev pub One : {R : Type 0} → (List R → Type 0) → Type 0
One {R} told = (fs gs : List R) → told fs → told gs → fs ≡ gs

pub one_in_turn : {X R : Type 0} (gives : ℕ → X → List R → Type 0) (i : ℕ) (xs : List X) → Each (λ x. (j : ℕ) → One (gives j x)) xs → One (InTurn gives i xs)
one_in_turn gives i [] h rs qs p q = p ∙ sym q
one_in_turn gives i (x ∷ xs) (h, hs) rs qs (f, r, g, t, e) (f', r', g', t', e') =
    e ∙ ap (λ z. z ++ r) (h i f f' g g') ∙ ap (λ z. f' ++ z) (one_in_turn gives (i + 1) xs hs r r' t t') ∙ sym e'

pub each_all : {X : Type 0} (P : X → Type 0) → ((x : X) → P x) → (xs : List X) → Each P xs
each_all P h [] = tt
each_all P h (x ∷ xs) = (h x, each_all P h xs)

each_of : {X : Type 0} (P Q : X → Type 0) → ((x : X) → P x → Q x) → (xs : List X) → Each P xs → Each Q xs
each_of P Q h [] e = tt
each_of P Q h (x ∷ xs) (p, ps) = (h x p, each_of P Q h xs ps)

module _ {S C : Type 0} (schema : Catalog S C) (may : Answers (InputValue S) C) (text : S → List ℕ) (str_of : S → Option (List ℕ)) (one : OneAnswer may) where
  one_checked : (c : C) (value : InputValue S) (said : List ℕ → List ℕ) (accepted : List Fault) → One (Checked may c value said accepted)
  one_checked c value said accepted fs gs (inl p) (inl q) = p.1 ∙ sym q.1
  one_checked c value said accepted fs gs (inl p) (inr q) = absurd (one c value _ _ p.0 q.1.2)
  one_checked c value said accepted fs gs (inr p) (inl q) = absurd (one c value _ _ p.1.2 q.0)
  one_checked c value said accepted fs gs (inr p) (inr q) = p.2 ∙ ap (λ w. here (said w) ∷ []) (sym p.1.1 ∙ one c value _ _ p.1.2 q.1.2 ∙ q.1.1) ∙ sym q.2

  one_or : (hs : List Fault) (c : C) (value : InputValue S) (said : List ℕ → List ℕ) → One (OrChecked may hs c value said)
  one_or [] c value said fs gs p q = one_checked c value said [] fs gs p q
  one_or (h ∷ hs) c value said fs gs p q = p ∙ sym q

  -- of a value at every type
  abbrev OneAt : InputValue S → Type 0
  OneAt value = (t : TypeShape) → One (Faults schema may text str_of value t)

  one_below : (step : Step) (t : TypeShape) (value : InputValue S) → OneAt value → One (Below schema may text str_of step t value)
  one_below step t value h fs gs p q = p.2 ∙ ap (map (under step)) (h t p.0 q.0 p.1 q.1) ∙ sym q.2

  one_field : (a : Argument S) (es : List (Entry (InputValue S))) → Each (λ e. OneAt e.1.item) es → (o : Option (InputValue S)) → last_value (string_bytes a.name) es ≡ o → One (OfField schema may text str_of a o)
  one_field a es h None e fs gs p q = p ∙ sym q
  one_field a es h (Some x) e fs gs p q =
      let at = last_entry (string_bytes a.name) es x e in
      one_below (field (string_bytes a.name)) (shape a.arg_type) x (subst OneAt at.2 (each-at (λ (n : Entry (InputValue S)). OneAt n.1.item) es at.1.0 at.0 at.1.1 at.1.2 h)) fs gs p q

  one_whole : (o : InputObjectMetaOf S C) (es : List (Entry (InputValue S))) (value : InputValue S) → Each (λ e. OneAt e.1.item) es → One (OfWhole schema may text str_of o es value)
  one_whole o es value h fs gs (hs, at, told) (hs', at', told') =
      let gives = λ (i : ℕ) (a : Argument S). OfField schema may text str_of a (last_value (string_bytes a.name) es) in
      let unknown = map unknown_field (unknown_keys (field_names o.input_fields.items) (keys_of es)) in
      let said = input_text (string_bytes o.name) (printed_value text str_of value) in
      let same : hs ≡ hs' = one_in_turn gives 0 o.input_fields.items (each_all (λ a. (j : ℕ) → One (gives j a)) (λ a j. one_field a es h (last_value (string_bytes a.name) es) refl) o.input_fields.items) hs hs' at at' in
      one_or (hs' ++ unknown) (input_object_check o) value said fs gs (subst (λ z. OrChecked may (z ++ unknown) (input_object_check o) value said fs) same told) told'

  -- what stands in a value has one list of faults at every type
  abbrev OneInside : v.InputValue-F S (InputValue S) → Type 0
  OneInside (v.List xs) = Each (λ x. OneAt x.item) xs.items
  OneInside (v.Object es) = Each (λ e. OneAt e.1.item) es.items
  OneInside _ = Unit {0}

  one_input : (x : v.InputValue-F S (InputValue S)) (o : InputObjectMetaOf S C) (value : InputValue S) → OneInside x → One (OfInput schema may text str_of (λ y. y) (judge_of schema may text str_of) x o value)
  one_input (v.Object es) o value h fs gs p q = one_whole o es.items value h fs gs p q
  one_input v.Null o value h fs gs p q = p ∙ sym q
  one_input (v.Scalar s) o value h fs gs p q = p ∙ sym q
  one_input (v.Enum n) o value h fs gs p q = p ∙ sym q
  one_input (v.Variable n) o value h fs gs p q = p ∙ sym q
  one_input (v.List xs) o value h fs gs p q = p ∙ sym q

  one_meta : (x : v.InputValue-F S (InputValue S)) (value : InputValue S) (meta : MetaTypeOf S C) → OneInside x → One (OfMeta schema may text str_of (λ y. y) (judge_of schema may text str_of) x value meta)
  one_meta x value (k.Scalar s) h fs gs p q = one_checked (scalar_check s) value (scalar_text (string_bytes s.name) (printed_value text str_of value)) (accepted_faults schema s x) fs gs p q
  one_meta x value (k.Enum e) h fs gs p q = p ∙ sym q
  one_meta x value (k.InputObject o) h fs gs p q = one_input x o value h fs gs p q
  one_meta x value _ h fs gs p q = absurd p

  one_named : (x : v.InputValue-F S (InputValue S)) (value : InputValue S) (meta : Option (MetaTypeOf S C)) → OneInside x → One (OfNamed schema may text str_of (λ y. y) (judge_of schema may text str_of) x value meta)
  one_named v.Null value meta h fs gs p q = p ∙ sym q
  one_named (v.Scalar s) value None h fs gs p q = absurd p
  one_named (v.Enum s) value None h fs gs p q = absurd p
  one_named (v.Variable s) value None h fs gs p q = absurd p
  one_named (v.List s) value None h fs gs p q = absurd p
  one_named (v.Object s) value None h fs gs p q = absurd p
  one_named (v.Scalar s) value (Some meta) h fs gs p q = one_meta (v.Scalar s) value meta h fs gs p q
  one_named (v.Enum s) value (Some meta) h fs gs p q = one_meta (v.Enum s) value meta h fs gs p q
  one_named (v.Variable s) value (Some meta) h fs gs p q = one_meta (v.Variable s) value meta h fs gs p q
  one_named (v.List s) value (Some meta) h fs gs p q = one_meta (v.List s) value meta h fs gs p q
  one_named (v.Object s) value (Some meta) h fs gs p q = one_meta (v.Object s) value meta h fs gs p q

  one_of : (x : v.InputValue-F S (InputValue S)) (value : InputValue S) (ms : List TypeModifier) (name : List ℕ) → OneInside x → One (OfLevel schema may text str_of x value ms name)
  one_of x value [] name h fs gs p q = one_named x value (type_in name schema) h fs gs p q
  one_of v.Null value (m.NonNull ∷ ms) name h fs gs p q = p ∙ sym q
  one_of v.Null value (m.List size ∷ ms) name h fs gs p q = p ∙ sym q
  one_of (v.List xs) value (m.NonNull ∷ ms) name h fs gs p q = one_of (v.List xs) value ms name h fs gs p q
  one_of (v.List xs) value (m.List size ∷ ms) name h fs gs (hs, t, e) (hs', t', e') =
      let gives = λ (i : ℕ) (x : Spanning (InputValue S) Span). Below schema may text str_of (element i) (within ms name) x.item in
      e
      ∙ ap (λ z. wrong_length size (length xs.items) ++ z)
      (one_in_turn gives 0 xs.items (each_of (λ (x : Spanning (InputValue S) Span). OneAt x.item) (λ x. (j : ℕ) → One (gives j x)) (λ x k j. one_below (element j) (within ms name) x.item k) xs.items h) hs hs' t t')
      ∙ sym e'
  one_of (v.Scalar s) value (m.NonNull ∷ ms) name h fs gs p q = one_of (v.Scalar s) value ms name h fs gs p q
  one_of (v.Enum s) value (m.NonNull ∷ ms) name h fs gs p q = one_of (v.Enum s) value ms name h fs gs p q
  one_of (v.Variable s) value (m.NonNull ∷ ms) name h fs gs p q = one_of (v.Variable s) value ms name h fs gs p q
  one_of (v.Object s) value (m.NonNull ∷ ms) name h fs gs p q = one_of (v.Object s) value ms name h fs gs p q
  one_of (v.Scalar s) value (m.List size ∷ ms) name h fs gs (hs, p, d) (hs', q, e) = d ∙ ap (λ z. wrong_length size 1 ++ z) (one_of (v.Scalar s) value ms name h hs hs' p q) ∙ sym e
  one_of (v.Enum s) value (m.List size ∷ ms) name h fs gs (hs, p, d) (hs', q, e) = d ∙ ap (λ z. wrong_length size 1 ++ z) (one_of (v.Enum s) value ms name h hs hs' p q) ∙ sym e
  one_of (v.Variable s) value (m.List size ∷ ms) name h fs gs (hs, p, d) (hs', q, e) = d ∙ ap (λ z. wrong_length size 1 ++ z) (one_of (v.Variable s) value ms name h hs hs' p q) ∙ sym e
  one_of (v.Object s) value (m.List size ∷ ms) name h fs gs (hs, p, d) (hs', q, e) = d ∙ ap (λ z. wrong_length size 1 ++ z) (one_of (v.Object s) value ms name h hs hs' p q) ∙ sym e

  one_at : (value : InputValue S) (x : v.InputValue-F S (InputValue S)) → value ≡ roll-InputValue S x → OneInside x → OneAt value
  one_at value x e h t fs gs p q =
      one_of x value (reverse t.modifiers) t.name h fs gs (transport (at_roll schema may text str_of value x t fs e) p) (transport (at_roll schema may text str_of value x t gs e) q)

  -- the list is one
  pub one_list : law.OneList schema may text str_of
  one_list =
      value_induction OneAt
      (one_at _ v.Null (sym variant.rolls-Null) tt)
      (λ s. one_at _ (v.Scalar s) (sym (variant.rolls-Scalar s)) tt)
      (λ n. one_at _ (v.Enum n) (sym (variant.rolls-Enum n)) tt)
      (λ n. one_at _ (v.Variable n) (sym (variant.rolls-Variable n)) tt)
      (λ xs h. one_at _ (v.List xs) (sym (variant.rolls-List xs)) h)
      (λ es h. one_at _ (v.Object es) (sym (variant.rolls-Object es)) h)
