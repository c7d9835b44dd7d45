-- What a value's fault is by the values in it.
use Rattle.std.proofs.Common.{◌≡◌, ℕ, List, [], ◌∷◌, Option, Some, None, IsSome, map, length, reverse, Bool, true, false, refl, ap, sym, ◌∙◌, ◌⊎◌}
use Rattle.std.proofs.Math.Path.{fun_ext}
use Rattle.std.proofs.lemmas.List.{length-map}
use Rattle.language_types.specs.declared.position.Span.{Span}
use Rattle.language_types.specs.declared.position.Spanning.{Spanning}
use Rattle.language_types.specs.declared.types.TypeModifier.{TypeModifier}
use Rattle.language_types.specs.declared.types.TypeModifier.TheVariants as m
use Rattle.language_values.specs.declared.value.InputValue.{InputValue, map-InputValue, roll-InputValue}
use Rattle.language_values.specs.declared.value.InputValue.TheOpen as v
use Rattle.language_values.specs.declared.value.InputValue.TheFolds.{rec-InputValue, rec-roll-InputValue}
use Rattle.language_values.specs.Values.{Entry}
use Rattle.meta.specs.Answers.{Answers}
use Rattle.meta.specs.declared.arguments.Argument.{Argument}
use Rattle.meta.specs.declared.kinds.MetaTypeOf.{MetaTypeOf}
use Rattle.meta.specs.Kinds.{input_field_named}
use Rattle.schema.specs.Catalog.{Catalog}
use Rattle.schema.specs.Wrapped.{WrappedMeta}
use Rattle.literals.specs.AnyLiteral.{takes_any}
use Rattle.literals.specs.FirstFault.{Telling, FirstFault}
use Rattle.literals.specs.Judged.{Judge, IsNone, is_input_object_meta, key_of, keys_of, LacksFields, other_length, within, sized, keyed, entry, object, against_name, against, judge_step, Judged, unless_any}

first_fault-map : {X Y : Type 0} (h : X → Y) (by : Telling X) (tells : Telling Y) (at_end : Option (List ℕ) → Type 0)
    → ((x : X) (f : Option (List ℕ)) → by x f ≡ tells (h x) f)
    → (xs : List X) (fault : Option (List ℕ))
    → FirstFault by at_end xs fault ≡ FirstFault tells at_end (map h xs) fault
first_fault-map h by tells at_end p [] fault = refl
first_fault-map h by tells at_end p (x ∷ xs) fault =
    ap (λ T. (T × IsSome fault) ⊎ (by x None × FirstFault by at_end xs fault)) (p x fault)
    ∙ ap (λ T. (tells (h x) fault × IsSome fault) ⊎ (T × FirstFault by at_end xs fault)) (p x None)
    ∙ ap (λ T. (tells (h x) fault × IsSome fault) ⊎ (tells (h x) None × T)) (first_fault-map h by tells at_end p xs fault)

pub map-map : {A B C : Type 0} (g : B → C) (f : A → B) (xs : List A) → map (λ x. g (f x)) xs ≡ map g (map f xs)
map-map g f [] = refl
map-map g f (x ∷ xs) = ap (λ ys. g (f x) ∷ ys) (map-map g f xs)

module _ {S C : Type 0} (schema : Catalog S C) (may : Answers (InputValue S) C) (shown : InputValue S → List ℕ) where
  module _ (X : Type 0) (value_of : X → InputValue S) (judge : InputValue S → Judge S C) where
    abbrev below : X → Judge S C
    below x = judge (value_of x)

    abbrev same : InputValue S → InputValue S
    same y = y

    abbrev item_of : Spanning X Span → Spanning (InputValue S) Span
    item_of x = record { item = value_of x.item; span = x.span }

    abbrev entry_of : Entry X → Entry (InputValue S)
    entry_of e = (e.0, item_of e.1)

    abbrev opened : v.InputValue-F S X → v.InputValue-F S (InputValue S)
    opened = map-InputValue S X (InputValue S) value_of

    keyed-natural : (meta : MetaTypeOf S C) (key : List ℕ) (a : Option (Argument S)) (x : X) (fault : Option (List ℕ))
        → keyed schema may shown value_of below meta key a x fault ≡ keyed schema may shown same judge meta key a (value_of x) fault
    keyed-natural meta key None x fault = refl
    keyed-natural meta key (Some a) x fault = refl

    object-natural : (b : Bool) (meta : MetaTypeOf S C) (es : List (Entry X)) (fault : Option (List ℕ))
        → object schema may shown value_of below b meta es fault ≡ object schema may shown same judge b meta (map entry_of es) fault
    object-natural false meta es fault = refl
    object-natural true meta es fault =
        first_fault-map entry_of (entry schema may shown value_of below meta) (entry schema may shown same judge meta) (LacksFields meta (keys_of es))
        (λ e f. keyed-natural meta (key_of e) (input_field_named (key_of e) meta) e.1.item f) es fault
        ∙ ap (λ keys. FirstFault (entry schema may shown same judge meta) (LacksFields meta keys) (map entry_of es) fault)
        (map-map (λ (e : Entry (InputValue S)). key_of e) entry_of es)

    name-natural : (x : v.InputValue-F S X) (value : InputValue S) (meta : MetaTypeOf S C) (fault : Option (List ℕ))
        → against_name schema may shown value_of below x value meta fault ≡ against_name schema may shown same judge (opened x) value meta fault
    name-natural v.Null value meta fault = refl
    name-natural (v.Variable n) value meta fault = refl
    name-natural (v.Scalar s) value meta fault = refl
    name-natural (v.Enum n) value meta fault = refl
    name-natural (v.List xs) value meta fault = refl
    name-natural (v.Object es) value meta fault = ap (unless_any may shown (takes_any schema meta) value meta fault) (object-natural (is_input_object_meta meta) meta es.items fault)

    natural : (x : v.InputValue-F S X) (value : InputValue S) (ms : List TypeModifier) (meta : MetaTypeOf S C) (fault : Option (List ℕ))
        → against schema may shown value_of below x value ms meta fault ≡ against schema may shown same judge (opened x) value ms meta fault
    natural x value [] meta fault = name-natural x value meta fault
    natural v.Null value (m.NonNull ∷ ms) meta fault = refl
    natural (v.Variable n) value (m.NonNull ∷ ms) meta fault = natural (v.Variable n) value ms meta fault
    natural (v.Scalar s) value (m.NonNull ∷ ms) meta fault = natural (v.Scalar s) value ms meta fault
    natural (v.Enum n) value (m.NonNull ∷ ms) meta fault = natural (v.Enum n) value ms meta fault
    natural (v.List xs) value (m.NonNull ∷ ms) meta fault = natural (v.List xs) value ms meta fault
    natural (v.Object es) value (m.NonNull ∷ ms) meta fault = natural (v.Object es) value ms meta fault
    natural v.Null value (m.List size ∷ ms) meta fault = refl
    natural (v.Variable n) value (m.List size ∷ ms) meta fault = refl
    natural (v.Scalar s) value (m.List size ∷ ms) meta fault = ap (sized may shown (other_length size 1) 1 value fault) (natural (v.Scalar s) value ms meta fault)
    natural (v.Enum n) value (m.List size ∷ ms) meta fault = ap (sized may shown (other_length size 1) 1 value fault) (natural (v.Enum n) value ms meta fault)
    natural (v.Object es) value (m.List size ∷ ms) meta fault = ap (sized may shown (other_length size 1) 1 value fault) (natural (v.Object es) value ms meta fault)
    natural (v.List xs) value (m.List size ∷ ms) meta fault =
        ap (sized may shown (other_length size (length xs.items)) (length xs.items) value fault)
        (first_fault-map item_of (λ x. below x.item (value_of x.item) (within ms meta)) (λ y. judge y.item y.item (within ms meta)) IsNone (λ x f. refl) xs.items fault)
        ∙ ap (λ n. sized may shown (other_length size n) n value fault (FirstFault (λ y. judge y.item y.item (within ms meta)) IsNone (map item_of xs.items) fault)) (sym (length-map xs.items item_of))

  step-natural : (X : Type 0) (value_of : X → InputValue S) (judge : InputValue S → Judge S C) (x : v.InputValue-F S X)
      → judge_step schema may shown X value_of (λ p. judge (value_of p)) x ≡ judge_step schema may shown (InputValue S) (λ y. y) judge (map-InputValue S X (InputValue S) value_of x)
  step-natural X value_of judge x =
      fun_ext (λ value. fun_ext (λ w. fun_ext (λ fault. natural X value_of judge x value (reverse w.modifiers) w.meta fault)))

  -- a value's fault by its one level
  pub judged-roll : (x : v.InputValue-F S (InputValue S)) (w : WrappedMeta S C) (fault : Option (List ℕ))
      → Judged schema may shown (roll-InputValue S x) w fault ≡ against schema may shown (λ y. y) (rec-InputValue S (Judge S C) (judge_step schema may shown)) x (roll-InputValue S x) (reverse w.modifiers) w.meta fault
  judged-roll x w fault = ap (λ (j : Judge S C). j (roll-InputValue S x) w fault) (rec-roll-InputValue S (Judge S C) (judge_step schema may shown) step-natural x)
