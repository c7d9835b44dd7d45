-- A value against a plain name.
use Rattle.std.proofs.Common.{◌≡◌, ℕ, List, Option, Some, None, true, false, refl, ap, sym, ◌∙◌, subst, ◌++◌, [], ◌∷◌, codes, Bor, map, option_map}
use Rattle.std.specs.Prelude.{Vec}
use Rattle.std.specs.declared.alloc.Global.{Global}
use Rattle.std.proofs.Math.Path.{transport}
use Rattle.language_types.specs.declared.position.Span.{Span}
use Rattle.language_types.specs.declared.position.Spanning.{Spanning}
use Rattle.language_values.specs.declared.value.InputValue.{InputValue, roll-InputValue, out-roll-InputValue}
use Rattle.language_values.specs.declared.value.InputValue.TheOpen as v
use Rattle.language_values.specs.declared.value.InputValue.TheVariants as variant
use Rattle.language_types.specs.Types.{shape}
use Rattle.language_values.specs.Values.{Entry, list_items, items_layer}
use Rattle.language_values.specs.ValuesPrinted.{comma_separated}
use Rattle.meta.specs.Answers.{Answers}
use Rattle.meta.specs.declared.arguments.Argument.{Argument}
use Rattle.meta.specs.Kinds.{check_of_meta, input_field_named}
use Rattle.meta.specs.declared.kinds.MetaTypeOf.{MetaTypeOf}
use Rattle.schema.specs.Catalog.{Catalog}
use Rattle.schema.specs.Wrapped.{WrappedMeta, plain_meta}
use Rattle.literals.specs.AnyLiteral.{takes_any}
use Rattle.literals.specs.FirstFault.{FirstFault}
use Rattle.literals.specs.Judged.{judge_of, Is, IsNone, IsTypeOf, Judged, EntryFault, KeyedFault, LacksFields, ObjectFault, against_name, is_input_object_meta, checked, keyed, keys_of, object, printed_name, unless_any}
use Rattle.literals.specs.Missing.{missing_fault}
use Rattle.literals.specs.Rows.{SaysItems}
use Rattle.literals.specs.Texts.{field_text, no_object_text, quoted, unknown_text}
use Rattle.literals.proofs.RowLaws.{at_roll}
use Rattle.literals.proofs.Unfold.{map-map}

module _ {S C : Type 0} (schema : Catalog S C) (may : Answers (InputValue S) C) (shown : InputValue S → List ℕ) where
  pub plain_row : (value : InputValue S) (x : v.InputValue-F S (InputValue S)) (meta : MetaTypeOf S C) (fault : Option (List ℕ)) → value ≡ roll-InputValue S x
      → against_name schema may shown (λ y. y) (judge_of schema may shown) x value meta fault → Judged schema may shown value (plain_meta meta) fault
  plain_row value x meta fault e j = transport (sym (at_roll schema may shown value x (plain_meta meta) fault e)) j

  listed : (value : InputValue S) (xs : Vec (Spanning (InputValue S) Span) Global) → value ≡ variant.List xs → list_items value ≡ Some xs.items
  listed value xs e = ap list_items (e ∙ sym (variant.rolls-List xs)) ∙ ap items_layer (out-roll-InputValue S (v.List xs))

  -- the fault of the items of a list
  pub says_items : (value : InputValue S) (xs : Vec (Spanning (InputValue S) Span) Global) (ys : List (Spanning (InputValue S) Span)) (w : WrappedMeta S C) (f : Option (List ℕ)) → value ≡ variant.List xs → ys ≡ xs.items
      → FirstFault (λ y. Judged schema may shown y.item w) IsNone ys f → SaysItems schema may shown (list_items value) w f
  says_items value xs ys w f e same h =
      subst (λ o. SaysItems schema may shown o w f) (sym (listed value xs e)) (subst (λ zs. FirstFault (λ y. Judged schema may shown y.item w) IsNone zs f) same h)

  -- a list or an object against a type that takes any literal
  pub by_check : (meta : MetaTypeOf S C) (value : InputValue S) (f : Option (List ℕ)) (Otherwise : Type 0) → takes_any schema meta ≡ true
      → checked may shown (check_of_meta meta) value meta f → unless_any may shown (takes_any schema meta) value meta f Otherwise
  by_check meta value f Otherwise e h = subst (λ b. unless_any may shown b value meta f Otherwise) (sym e) h

  -- and against one that does not
  pub otherwise : (meta : MetaTypeOf S C) (value : InputValue S) (f : Option (List ℕ)) (Otherwise : Type 0) → takes_any schema meta ≡ false
      → Otherwise → unless_any may shown (takes_any schema meta) value meta f Otherwise
  otherwise meta value f Otherwise e h = subst (λ b. unless_any may shown b value meta f Otherwise) (sym e) h

  -- an object against a type that is not an input object
  pub no_object : (meta : MetaTypeOf S C) (es : List (Entry (InputValue S))) (f : Option (List ℕ)) → is_input_object_meta meta ≡ false → Is (no_object_text (printed_name meta)) f → ObjectFault schema may shown meta es f
  no_object meta es f e h = subst (λ b. object schema may shown (λ y. y) (judge_of schema may shown) b meta es f) (sym e) h

  -- an object against an input object
  pub input_object : (meta : MetaTypeOf S C) (es : List (Entry (InputValue S))) (f : Option (List ℕ)) → is_input_object_meta meta ≡ true → FirstFault (EntryFault schema may shown meta) (LacksFields meta (keys_of es)) es f → ObjectFault schema may shown meta es f
  input_object meta es f e h = subst (λ b. object schema may shown (λ y. y) (judge_of schema may shown) b meta es f) (sym e) h

  -- a value under a key that no input field has
  pub unknown_key : (meta : MetaTypeOf S C) (key : List ℕ) (value : InputValue S) (f : Option (List ℕ)) → input_field_named key meta ≡ None → Is (unknown_text (printed_name meta) key) f → KeyedFault schema may shown meta key value f
  unknown_key meta key value f e h = subst (λ o. keyed schema may shown (λ y. y) (judge_of schema may shown) meta key o value f) (sym e) h

  -- a value under the key of an input field
  pub known_key : (meta : MetaTypeOf S C) (key : List ℕ) (value : InputValue S) (a : Argument S) (w : WrappedMeta S C) (m f : Option (List ℕ)) → input_field_named key meta ≡ Some a → IsTypeOf schema (shape a.arg_type) w
      → Judged schema may shown value w m → f ≡ option_map (field_text (printed_name meta) key) m → KeyedFault schema may shown meta key value f
  known_key meta key value a w m f e made told is = subst (λ o. keyed schema may shown (λ y. y) (judge_of schema may shown) meta key o value f) (sym e) (w, made, m, told, is)

-- the text of names that are missing
pub some_text : (type_name : List ℕ) (ns : List (Bor (List ℕ))) (said : List ℕ) (ms : List (List ℕ)) → (ns ≡ [] → ⊥) → map (λ (n : Bor (List ℕ)). n.now) ns ≡ ms
    → said ≡ codes "\"" ++ (type_name ++ (codes "\" is missing fields: " ++ comma_separated (map (λ (n : Bor (List ℕ)). quoted n.now) ns))) → Some said ≡ missing_fault type_name ms
some_text type_name [] said ms f e is = absurd (f refl)
some_text type_name (n ∷ ns) said ms f e is =
    subst (λ xs. Some said ≡ missing_fault type_name xs) e
    (ap (λ s. Some s) (is ∙ ap (λ qs. codes "\"" ++ (type_name ++ (codes "\" is missing fields: " ++ comma_separated (quoted n.now ∷ qs)))) (map-map quoted (λ (k : Bor (List ℕ)). k.now) ns)))
