-- What a value's faults are by the values in it.
use Rattle.std.proofs.Common.{◌≡◌, ℕ, ◌+◌, List, [], ◌∷◌, ◌++◌, Option, Some, None, Bool, true, false, cond, map, length, reverse, refl, ap, sym, ◌∙◌}
use Rattle.std.specs.Prelude.{find, option_map, string_bytes, if◌then◌else◌}
use Rattle.std.specs.Str.{bytes_eq}
use Rattle.std.proofs.Math.Path.{fun_ext}
use Rattle.std.proofs.lemmas.List.{length-map}
use Rattle.indexmap.proofs.ReorderLemmas.{map-reverse}
use Rattle.language_types.specs.declared.position.Span.{Span}
use Rattle.language_types.specs.declared.position.Spanning.{Spanning}
use Rattle.language_types.specs.declared.types.TypeModifier.{TypeModifier}
use Rattle.language_types.specs.declared.types.TypeModifier.TheVariants as m
use Rattle.language_values.specs.declared.value.InputValue.{InputValue, map-InputValue, roll-InputValue}
use Rattle.language_values.specs.declared.value.InputValue.TheOpen as v
use Rattle.language_values.specs.declared.value.InputValue.TheFolds.{rec-roll-InputValue}
use Rattle.language_types.specs.Types.{TypeShape}
use Rattle.language_values.specs.Values.{Entry, last_value}
use Rattle.language_values.specs.ValuesPrinted.{printed_value}
use Rattle.meta.specs.Answers.{Answers}
use Rattle.meta.specs.Kept.{scalar_check, input_object_check}
use Rattle.meta.specs.declared.arguments.Argument.{Argument}
use Rattle.meta.specs.declared.inputs.InputObjectMetaOf.{InputObjectMetaOf}
use Rattle.meta.specs.declared.kinds.MetaTypeOf.{MetaTypeOf}
use Rattle.meta.specs.declared.kinds.MetaTypeOf.TheVariants as k
use Rattle.meta.specs.declared.scalars.ScalarMetaOf.{ScalarMetaOf}
use Rattle.schema.specs.Catalog.{Catalog, type_in}
use Rattle.variable_values.specs.Faults.{Judge, Fault, element, AtField, AtFields, Checked, Inside, Of, OfInput, OfMeta, OfNamed, OfObject, OrChecked, accepted_faults, enum_faults, Faults, judge_of, judge_step, name_in, unknown_field, whole_faults, within, wrong_length}
use Rattle.variable_values.specs.Dialects.{takes_any_value}
use Rattle.variable_values.specs.InTurn.{InTurn}
use Rattle.variable_values.specs.Keys.{keys_of, field_names, unknown_keys}
use Rattle.variable_values.specs.Texts.{scalar_text, input_text}

pub map-map : {A B C : Type 0} (g : B → C) (f : A → B) (xs : List A) → map (λ x. g (f x)) xs ≡ map g (map f xs)
map-map g f [] = refl
map-map g f (x ∷ xs) = ap (λ ys. g (f x) ∷ ys) (map-map g f xs)

-- what one gives and then what others give
abbrev Joined : {R : Type 0} → (List R → Type 0) → (List R → Type 0) → List R → Type 0
Joined {R} one others rs = (first : List R) × (rest : List R) × one first × others rest × (rs ≡ first ++ rest)

in_turn-map : {X Y R : Type 0} (h : X → Y) (by : ℕ → X → List R → Type 0) (gives : ℕ → Y → List R → Type 0)
    → ((i : ℕ) (x : X) (rs : List R) → by i x rs ≡ gives i (h x) rs)
    → (i : ℕ) (xs : List X) (rs : List R)
    → InTurn by i xs rs ≡ InTurn gives i (map h xs) rs
in_turn-map h by gives p i [] rs = refl
in_turn-map {X} {Y} {R} h by gives p i (x ∷ xs) rs =
    ap (λ (one : List R → Type 0). Joined one (InTurn by (i + 1) xs) rs) (fun_ext (p i x))
    ∙ ap (λ (others : List R → Type 0). Joined (gives i (h x)) others rs) (fun_ext (in_turn-map h by gives p (i + 1) xs))

in_turn-same : {X R : Type 0} (by gives : ℕ → X → List R → Type 0)
    → ((i : ℕ) (x : X) (rs : List R) → by i x rs ≡ gives i x rs)
    → (i : ℕ) (xs : List X) (rs : List R)
    → InTurn by i xs rs ≡ InTurn gives i xs rs
in_turn-same {X} {R} by gives p i xs rs = ap (λ (g : ℕ → X → List R → Type 0). InTurn g i xs rs) (fun_ext (λ j. fun_ext (λ x. fun_ext (λ qs. p j x qs))))

find-map : {A B : Type 0} (p : B → Bool) (f : A → B) (xs : List A) → find p (map f xs) ≡ option_map f (find (λ x. p (f x)) xs)
find-map p f [] = refl
find-map {A} {B} p f (x ∷ xs) =
    elim (p (f x)) as (λ b. cond b (Some (f x)) (find p (map f xs)) ≡ option_map f (cond b (Some x) (find (λ y. p (f y)) xs))) [
      | true ↦ refl
      | false ↦ find-map p f xs
    ]

twice : {A B C D : Type 0} (f : A → B) (g : B → D) (h : A → C) (k : C → D) → ((a : A) → g (f a) ≡ k (h a)) → (o : Option A) → option_map g (option_map f o) ≡ option_map k (option_map h o)
twice f g h k p None = refl
twice f g h k p (Some a) = ap (λ d. Some d) (p a)

module _ {S C : Type 0} (schema : Catalog S C) (may : Answers (InputValue S) C) (text : S → List ℕ) (str_of : S → Option (List ℕ)) where
  module _ (X : Type 0) (value_of : X → InputValue S) (judge : InputValue S → Judge S) where
    abbrev below : X → Judge S
    below x = judge (value_of x)

    abbrev same : InputValue S → InputValue S
    same y = y

    abbrev item_of : Spanning X Span → Spanning (InputValue S) Span
    item_of x = record { item = value_of x.item; span = x.span }

    abbrev entry_of : Entry X → Entry (InputValue S)
    entry_of e = (e.0, item_of e.1)

    abbrev opened : v.InputValue-F S X → v.InputValue-F S (InputValue S)
    opened = map-InputValue S X (InputValue S) value_of

    last_value-map : (key : List ℕ) (es : List (Entry X)) → option_map value_of (last_value key es) ≡ last_value key (map entry_of es)
    last_value-map key es =
        sym (twice entry_of (λ (e : Entry (InputValue S)). e.1.item) (λ (e : Entry X). e.1.item) value_of (λ a. refl) (find (λ (e : Entry X). bytes_eq (string_bytes e.0.item) key) (reverse es)))
        ∙ ap (option_map (λ (e : Entry (InputValue S)). e.1.item)) (sym (find-map (λ (e : Entry (InputValue S)). bytes_eq (string_bytes e.0.item) key) entry_of (reverse es)) ∙ ap (find (λ (e : Entry (InputValue S)). bytes_eq (string_bytes e.0.item) key)) (map-reverse entry_of es))

    field-natural : (a : Argument S) (o : Option X) (fs : List Fault)
        → AtField schema may text str_of value_of below a o fs ≡ AtField schema may text str_of same judge a (option_map value_of o) fs
    field-natural a None fs = refl
    field-natural a (Some x) fs = refl

    at-natural : (es : List (Entry X)) (i : ℕ) (a : Argument S) (fs : List Fault)
        → AtField schema may text str_of value_of below a (last_value (string_bytes a.name) es) fs ≡ AtField schema may text str_of same judge a (last_value (string_bytes a.name) (map entry_of es)) fs
    at-natural es i a fs =
        field-natural a (last_value (string_bytes a.name) es) fs
        ∙ ap (λ o. AtField schema may text str_of same judge a o fs) (last_value-map (string_bytes a.name) es)

    fields-natural : (fields : List (Argument S)) (es : List (Entry X)) (fs : List Fault)
        → AtFields schema may text str_of value_of below fields es fs ≡ AtFields schema may text str_of same judge fields (map entry_of es) fs
    fields-natural fields es fs =
        in_turn-same (λ i a. AtField schema may text str_of value_of below a (last_value (string_bytes a.name) es)) (λ i a. AtField schema may text str_of same judge a (last_value (string_bytes a.name) (map entry_of es))) (at-natural es) 0 fields fs

    -- faults at the fields, and what is made of them by these keys
    abbrev Made : InputObjectMetaOf S C → InputValue S → (List Fault → Type 0) → List (List ℕ) → List Fault → Type 0
    Made o value at keys fs =
        (gs : List Fault) × at gs
        × OrChecked may (gs ++ map unknown_field (unknown_keys (field_names o.input_fields.items) keys)) (input_object_check o) value (input_text (string_bytes o.name) (printed_value text str_of value)) fs

    object-natural : (o : InputObjectMetaOf S C) (es : List (Entry X)) (value : InputValue S) (fs : List Fault)
        → OfObject schema may text str_of value_of below o es value fs ≡ OfObject schema may text str_of same judge o (map entry_of es) value fs
    object-natural o es value fs =
        ap (λ (at : List Fault → Type 0). Made o value at (keys_of es) fs) (fun_ext (fields-natural o.input_fields.items es))
        ∙ ap (λ keys. Made o value (AtFields schema may text str_of same judge o.input_fields.items (map entry_of es)) keys fs)
        (map-map (λ (e : Entry (InputValue S)). string_bytes e.0.item) entry_of es)

    input-natural : (x : v.InputValue-F S X) (o : InputObjectMetaOf S C) (value : InputValue S) (fs : List Fault)
        → OfInput schema may text str_of value_of below x o value fs ≡ OfInput schema may text str_of same judge (opened x) o value fs
    input-natural (v.Object es) o value fs = object-natural o es.items value fs
    input-natural v.Null o value fs = refl
    input-natural (v.Scalar s) o value fs = refl
    input-natural (v.Enum n) o value fs = refl
    input-natural (v.Variable n) o value fs = refl
    input-natural (v.List xs) o value fs = refl

    whole-natural : (name : List ℕ) (x : v.InputValue-F S X) → whole_faults name x ≡ whole_faults name (opened x)
    whole-natural name v.Null = refl
    whole-natural name (v.Scalar s) = refl
    whole-natural name (v.Enum n) = refl
    whole-natural name (v.Variable n) = refl
    whole-natural name (v.List xs) = refl
    whole-natural name (v.Object es) = refl

    accepted-natural : (s : ScalarMetaOf C) (x : v.InputValue-F S X) → accepted_faults schema s x ≡ accepted_faults schema s (opened x)
    accepted-natural s x = ap (λ fs. if takes_any_value schema s then [] else fs) (whole-natural (string_bytes s.name) x)

    name-natural : (x : v.InputValue-F S X) → name_in str_of x ≡ name_in str_of (opened x)
    name-natural v.Null = refl
    name-natural (v.Scalar s) = refl
    name-natural (v.Enum n) = refl
    name-natural (v.Variable n) = refl
    name-natural (v.List xs) = refl
    name-natural (v.Object es) = refl

    meta-natural : (x : v.InputValue-F S X) (value : InputValue S) (meta : MetaTypeOf S C) (fs : List Fault)
        → OfMeta schema may text str_of value_of below x value meta fs ≡ OfMeta schema may text str_of same judge (opened x) value meta fs
    meta-natural x value (k.Scalar s) fs =
        ap (λ a. Checked may (scalar_check s) value (scalar_text (string_bytes s.name) (printed_value text str_of value)) a fs) (accepted-natural s x)
    meta-natural x value (k.Enum e) fs = ap (λ o. fs ≡ enum_faults (string_bytes e.name) (map (λ n. string_bytes n.name) e.values.items) o) (name-natural x)
    meta-natural x value (k.InputObject o) fs = input-natural x o value fs
    meta-natural x value _ fs = refl

    named-natural : (x : v.InputValue-F S X) (value : InputValue S) (meta : Option (MetaTypeOf S C)) (fs : List Fault)
        → OfNamed schema may text str_of value_of below x value meta fs ≡ OfNamed schema may text str_of same judge (opened x) value meta fs
    named-natural v.Null value meta fs = refl
    named-natural (v.Scalar s) value None fs = refl
    named-natural (v.Enum s) value None fs = refl
    named-natural (v.Variable s) value None fs = refl
    named-natural (v.List s) value None fs = refl
    named-natural (v.Object s) value None fs = refl
    named-natural (v.Scalar s) value (Some meta) fs = meta-natural (v.Scalar s) value meta fs
    named-natural (v.Enum s) value (Some meta) fs = meta-natural (v.Enum s) value meta fs
    named-natural (v.Variable s) value (Some meta) fs = meta-natural (v.Variable s) value meta fs
    named-natural (v.List s) value (Some meta) fs = meta-natural (v.List s) value meta fs
    named-natural (v.Object s) value (Some meta) fs = meta-natural (v.Object s) value meta fs

    -- of one value for a list, by its faults against the type of items
    abbrev OfOne : Option ℕ → (List Fault → Type 0) → List Fault → Type 0
    OfOne size inner fs = (gs : List Fault) × inner gs × (fs ≡ wrong_length size 1 ++ gs)

    natural : (x : v.InputValue-F S X) (value : InputValue S) (ms : List TypeModifier) (name : List ℕ) (fs : List Fault)
        → Of schema may text str_of value_of below x value ms name fs ≡ Of schema may text str_of same judge (opened x) value ms name fs
    natural x value [] name fs = named-natural x value (type_in name schema) fs
    natural v.Null value (m.NonNull ∷ ms) name fs = refl
    natural v.Null value (m.List size ∷ ms) name fs = refl
    natural (v.List xs) value (m.NonNull ∷ ms) name fs = natural (v.List xs) value ms name fs
    natural (v.List xs) value (m.List size ∷ ms) name fs =
        ap (λ (items : List Fault → Type 0). (gs : List Fault) × items gs × (fs ≡ wrong_length size (length xs.items) ++ gs))
        (fun_ext
        (in_turn-map item_of (λ i x. Inside schema may text str_of value_of below (element i) (within ms name) x.item) (λ i x. Inside schema may text str_of same judge (element i) (within ms name) x.item) (λ i x rs. refl) 0 xs.items))
        ∙ ap (λ n. (gs : List Fault) × InTurn (λ i x. Inside schema may text str_of same judge (element i) (within ms name) x.item) 0 (map item_of xs.items) gs × (fs ≡ wrong_length size n ++ gs)) (sym (length-map xs.items item_of))
    natural (v.Scalar s) value (m.NonNull ∷ ms) name fs = natural (v.Scalar s) value ms name fs
    natural (v.Enum s) value (m.NonNull ∷ ms) name fs = natural (v.Enum s) value ms name fs
    natural (v.Variable s) value (m.NonNull ∷ ms) name fs = natural (v.Variable s) value ms name fs
    natural (v.Object s) value (m.NonNull ∷ ms) name fs = natural (v.Object s) value ms name fs
    natural (v.Scalar s) value (m.List size ∷ ms) name fs = ap (λ (inner : List Fault → Type 0). OfOne size inner fs) (fun_ext (natural (v.Scalar s) value ms name))
    natural (v.Enum s) value (m.List size ∷ ms) name fs = ap (λ (inner : List Fault → Type 0). OfOne size inner fs) (fun_ext (natural (v.Enum s) value ms name))
    natural (v.Variable s) value (m.List size ∷ ms) name fs = ap (λ (inner : List Fault → Type 0). OfOne size inner fs) (fun_ext (natural (v.Variable s) value ms name))
    natural (v.Object s) value (m.List size ∷ ms) name fs = ap (λ (inner : List Fault → Type 0). OfOne size inner fs) (fun_ext (natural (v.Object s) value ms name))

  step-natural : (X : Type 0) (value_of : X → InputValue S) (judge : InputValue S → Judge S) (x : v.InputValue-F S X)
      → judge_step schema may text str_of X value_of (λ p. judge (value_of p)) x ≡ judge_step schema may text str_of (InputValue S) (λ y. y) judge (map-InputValue S X (InputValue S) value_of x)
  step-natural X value_of judge x =
      fun_ext (λ value. fun_ext (λ t. fun_ext (λ fs. natural X value_of judge x value (reverse t.modifiers) t.name fs)))

  -- a value's faults by its one level
  pub faults-roll : (x : v.InputValue-F S (InputValue S)) (t : TypeShape) (fs : List Fault)
      → Faults schema may text str_of (roll-InputValue S x) t fs ≡ Of schema may text str_of (λ y. y) (judge_of schema may text str_of) x (roll-InputValue S x) (reverse t.modifiers) t.name fs
  faults-roll x t fs = ap (λ (j : Judge S). j (roll-InputValue S x) t fs) (rec-roll-InputValue S (Judge S) (judge_step schema may text str_of) step-natural x)
