-- A value has no fault against a type if and only if it conforms to it. In specs/, since the laws of the rules cite it.
use Rattle.std.proofs.Common.{◌≡◌, ◌↔◌, ℕ, zero, suc, List, [], ◌∷◌, ◌++◌, length, reverse, Bool, true, false, not}
use Rattle.std.proofs.Common.{◌&&◌, Option, Some, None, IsSome, is_some, inl, inr, refl, ap, sym, ◌∙◌, subst, arith}
use Rattle.std.specs.Prelude.{String, Vec, cond, fold, nat_eq, option_and_then, option_map, string_bytes, if◌then◌else◌}
use Rattle.std.specs.declared.alloc.Global.{Global}
use Rattle.std.specs.List.{Contains}
use Rattle.std.specs.Option.{option_map_or}
use Rattle.std.proofs.Math.Path.{transport}
use Rattle.std.proofs.lemmas.List.{reverse-reverse}
use Rattle.std.proofs.lemmas.List.Elements.{Contains-append_right}
use Rattle.language_values.proofs.ValueInduction.{value_induction}
use Rattle.language_values.specs.Each.{Each}
use Rattle.language_types.specs.Position.{Placed}
use Rattle.language_types.specs.Types.{TypeShape, shape}
use Rattle.language_values.specs.Values.{Entry}
use Rattle.language_types.specs.declared.types.TypeModifier.{TypeModifier}
use Rattle.language_types.specs.declared.types.TypeModifier.TheVariants as m
use Rattle.language_values.specs.declared.value.InputValue.{InputValue, out-InputValue, out-roll-InputValue, roll-InputValue}
use Rattle.language_values.specs.declared.value.InputValue.{roll-out-InputValue}
use Rattle.language_values.specs.declared.value.InputValue.TheOpen as v
use Rattle.language_values.specs.declared.value.InputValue.TheVariants as variant
use Rattle.meta.specs.Answers.{Answers, Accepts}
use Rattle.meta.specs.Kinds.{check_of_meta, input_field_named, input_fields_of}
use Rattle.meta.specs.declared.arguments.Argument.{Argument}
use Rattle.meta.specs.declared.kinds.MetaTypeOf.{MetaTypeOf}
use Rattle.meta.specs.declared.kinds.MetaTypeOf.TheVariants as k
use Rattle.schema.specs.Catalog.{Catalog, type_in}
use Rattle.schema.specs.declared.model.dialect.Dialect.{Dialect}
use Rattle.schema.specs.declared.model.dialect.Dialect.TheVariants as d
use Rattle.schema.specs.Possible.{is_among}
use Rattle.schema.specs.Wrapped.{WrappedMeta}
use Rattle.literals.specs.AnyLiteral.{takes_any, takes_any_in}
use Rattle.literals.specs.FirstFault.{Telling, FirstFault}
use Rattle.literals.specs.Judged.{FaultAt, Is as IsSaid, IsNone, Judged, LacksFields, WrittenFault, checked, entry}
use Rattle.literals.specs.Judged.{is_enum_meta, is_input_object_meta, judge_of, key_of, keyed, keys_of}
use Rattle.literals.specs.Judged.{object as object_fault, other_length, printed_name, sized, unless_any, unless_enum}
use Rattle.literals.specs.Judged.{within}
use Rattle.literals.specs.Missing.{is_lacking, is_required, missing, missing_fault, noted}
use Rattle.literals.specs.Texts.{list_text}
use Rattle.literals.proofs.RowLaws.{Against, at_roll, within_of}
use Rattle.rules_values.specs.Conforms.{Conforms, ConformsTo, alone, any_literal, enum_value, field_type, is_of_size}
use Rattle.rules_values.specs.Conforms.{list, non_null, null_list, null_name, object, scalar, variable}

some_none : {X : Type 0} {x : X} → None ≡ Some x → ⊥
some_none e = cc

module _ {X : Type 0} (tells : Telling X) (at_end : Option (List ℕ) → Type 0) where
  -- where none has a fault
  all_none : (xs : List X) → ((x : X) → Contains xs x → tells x None) → at_end None → FirstFault tells at_end xs None
  all_none [] h e = e
  all_none (x ∷ xs) h e = inr (h x (0, omega arith, refl), all_none xs (λ y there. h y (Contains-append_right (x ∷ []) xs y there)) e)

  none_of : (xs : List X) → FirstFault tells at_end xs None → (x : X) → Contains xs x → tells x None
  none_of [] told x (k, within_length, at) = absurd (omega (arith, within_length))
  none_of (y ∷ xs) (inl p) x there = absurd (let bad : false ≡ true = p.1 in cc)
  none_of (y ∷ xs) (inr p) x (zero, within_length, at) = subst (λ z. tells z None) at p.0
  none_of (y ∷ xs) (inr p) x (suc k, within_length, at) = none_of xs p.1 x (k, omega (arith, within_length), at)

  none_at_end : (xs : List X) → FirstFault tells at_end xs None → at_end None
  none_at_end [] told = told
  none_at_end (x ∷ xs) (inl p) = absurd (let bad : false ≡ true = p.1 in cc)
  none_at_end (x ∷ xs) (inr p) = none_at_end xs p.1

each_contains : {X : Type 0} (P : X → Type 0) (xs : List X) → Each P xs → (x : X) → Contains xs x → P x
each_contains P [] h x (k, within_length, at) = absurd (omega (arith, within_length))
each_contains P (y ∷ xs) (p, ps) x (zero, within_length, at) = subst P at p
each_contains P (y ∷ xs) (p, ps) x (suc k, within_length, at) = each_contains P xs ps x (k, omega (arith, within_length), at)

some_more : {X : Type 0} (xs : List X) (x : X) → xs ++ x ∷ [] ≡ [] → ⊥
some_more [] x e = cc
some_more (y ∷ xs) x e = cc

not_lacking : (required given : Bool) → (required && (not given && true)) ≡ false → required ≡ true → given ≡ true
not_lacking true true e is = refl
not_lacking true false e is = absurd cc
not_lacking false given e is = absurd cc

given_or_not : (required given : Bool) → (required ≡ true → given ≡ true) → (required && (not given && true)) ≡ false
given_or_not true true h = refl
given_or_not true false h = absurd (let bad = h refl in cc)
given_or_not false given h = refl

module _ {S : Type 0} (keys : List (List ℕ)) where
  abbrev IsGiven : Argument S → Type 0
  IsGiven a = is_required a ≡ true → is_among keys (string_bytes a.name) ≡ true

  none_noted_by : (b : Bool) (names : List (List ℕ)) (a : Argument S) → is_lacking keys names a ≡ b
      → (if b then names ++ string_bytes a.name ∷ [] else names) ≡ [] → (names ≡ []) × IsGiven a
  none_noted_by true names a is e = absurd (some_more names (string_bytes a.name) e)
  none_noted_by false names a is e =
      (e, not_lacking (is_required a) (is_among keys (string_bytes a.name)) (ap (λ z. is_lacking keys z a) (sym e) ∙ is))

  none_noted : (names : List (List ℕ)) (a : Argument S) → noted keys names a ≡ [] → (names ≡ []) × IsGiven a
  none_noted names a e = none_noted_by (is_lacking keys names a) names a refl e

  noted_none : (names : List (List ℕ)) (a : Argument S) → names ≡ [] → IsGiven a → noted keys names a ≡ []
  noted_none names a e given =
      let is : is_lacking keys names a ≡ false =
      ap (λ z. is_lacking keys z a) e ∙ given_or_not (is_required a) (is_among keys (string_bytes a.name)) given in
      ap (λ b. if b then names ++ string_bytes a.name ∷ [] else names) is ∙ e

  at_field : (f : Argument S) (fields : List (Argument S)) → IsGiven f
      → ((a : Argument S) → Contains fields a → IsGiven a) → (a : Argument S) → Contains (f ∷ fields) a → IsGiven a
  at_field f fields first rest a (zero, within_length, at) = subst IsGiven at first
  at_field f fields first rest a (suc k, within_length, at) = rest a (k, omega (arith, within_length), at)

  none_kept : (fields : List (Argument S)) (names : List (List ℕ)) → fold (noted keys) names fields ≡ [] → (names ≡ [])
      × ((a : Argument S) → Contains fields a → IsGiven a)
  none_kept [] names e = (e, λ a there. absurd (omega (arith, there.1)))
  none_kept (f ∷ fields) names e =
      let rest = none_kept fields (noted keys names f) e in
      let first = none_noted names f rest.0 in
      (first.0, at_field f fields first.1 rest.1)

  kept_none : (fields : List (Argument S)) (names : List (List ℕ)) → names ≡ []
      → ((a : Argument S) → Contains fields a → IsGiven a) → fold (noted keys) names fields ≡ []
  kept_none [] names e given = e
  kept_none (f ∷ fields) names e given =
      kept_none fields (noted keys names f) (noted_none names f e (given f (0, omega arith, refl)))
      (λ a there. given a (Contains-append_right (f ∷ []) fields a there))

missing_none : (name : List ℕ) (names : List (List ℕ)) → None ≡ missing_fault name names → names ≡ []
missing_none name [] e = refl
missing_none name (n ∷ names) e = absurd (some_none e)

map_none : {X Y : Type 0} (f : X → Y) (o : Option X) → None ≡ option_map f o → o ≡ None
map_none f None e = refl
map_none f (Some x) e = absurd (some_none e)

-- neither an enum nor an input object takes any literal
no_enum_any : {S C : Type 0} (dialect : Dialect) (meta : MetaTypeOf S C) → takes_any_in dialect meta ≡ true → is_enum_meta meta ≡ false
no_enum_any d.Juniper meta e = absurd cc
no_enum_any d.October2021 (k.Enum x) e = absurd cc
no_enum_any d.October2021 _ e = refl

object_not_any : {S C : Type 0} (dialect : Dialect) (meta : MetaTypeOf S C) → is_input_object_meta meta ≡ true
    → takes_any_in dialect meta ≡ false
object_not_any d.Juniper meta e = refl
object_not_any d.October2021 (k.Scalar x) e = absurd cc
object_not_any d.October2021 _ e = refl

module _ {S C : Type 0} (schema : Catalog S C) (may : Answers (InputValue S) C) (shown : InputValue S → List ℕ) where
  abbrev NoFault : InputValue S → WrappedMeta S C → Type 0
  NoFault value w = Judged schema may shown value w None

  -- at one level of the value
  abbrev Level : v.InputValue-F S (InputValue S) → InputValue S → List TypeModifier → MetaTypeOf S C → Type 0
  Level x value ms meta = Against schema may shown x value ms meta None

  of_level : (value : InputValue S) (x : v.InputValue-F S (InputValue S)) (ms : List TypeModifier)
      (meta : MetaTypeOf S C) → value ≡ roll-InputValue S x → Level x value ms meta → NoFault value (within ms meta)
  of_level value x ms meta e l =
      transport (sym (at_roll schema may shown value x (within ms meta) None e))
      (subst (λ z. Level x value z meta) (sym (reverse-reverse ms)) l)

  to_level : (value : InputValue S) (x : v.InputValue-F S (InputValue S)) (ms : List TypeModifier)
      (meta : MetaTypeOf S C) → value ≡ roll-InputValue S x → NoFault value (within ms meta) → Level x value ms meta
  to_level value x ms meta e j =
      subst (λ z. Level x value z meta) (reverse-reverse ms)
      (transport (at_roll schema may shown value x (within ms meta) None e) j)

  sized_by : (b : Bool) (wanted found : ℕ) (value : InputValue S) (Otherwise : Type 0) → b ≡ true → Otherwise
      → sized may shown (if b then None else Some wanted) found value None Otherwise
  sized_by true wanted found value Otherwise e o = o
  sized_by false wanted found value Otherwise e o = absurd cc

  sized_if : (size : Option ℕ) (found : ℕ) (value : InputValue S) (Otherwise : Type 0) → is_of_size size found ≡ true
      → Otherwise → sized may shown (other_length size found) found value None Otherwise
  sized_if None found value Otherwise e o = o
  sized_if (Some wanted) found value Otherwise e o = sized_by (nat_eq wanted found) wanted found value Otherwise e o

  by_size : (b : Bool) (wanted found : ℕ) (value : InputValue S) (Otherwise : Type 0)
      → sized may shown (if b then None else Some wanted) found value None Otherwise → (b ≡ true) × Otherwise
  by_size true wanted found value Otherwise o = (refl, o)
  by_size false wanted found value Otherwise o = absurd (some_none o)

  if_sized : (size : Option ℕ) (found : ℕ) (value : InputValue S) (Otherwise : Type 0)
      → sized may shown (other_length size found) found value None Otherwise → (is_of_size size found ≡ true)
      × Otherwise
  if_sized None found value Otherwise o = (refl, o)
  if_sized (Some wanted) found value Otherwise o = by_size (nat_eq wanted found) wanted found value Otherwise o

  -- from here on: what conforms has no fault
  variable_level : (name : String Global) (value : InputValue S) (ms : List TypeModifier) (meta : MetaTypeOf S C)
      → Level (v.Variable name) value ms meta
  variable_level name value [] meta = refl
  variable_level name value (m.NonNull ∷ ms) meta = variable_level name value ms meta
  variable_level name value (m.List size ∷ ms) meta = refl

  non_null_level : (x : v.InputValue-F S (InputValue S)) (value : InputValue S) (ms : List TypeModifier)
      (meta : MetaTypeOf S C) → value ≡ roll-InputValue S x → (value ≡ variant.Null → ⊥) → Level x value ms meta
      → Level x value (m.NonNull ∷ ms) meta
  non_null_level v.Null value ms meta e n l = absurd (n (e ∙ variant.rolls-Null))
  non_null_level (v.Scalar s) value ms meta e n l = l
  non_null_level (v.Enum s) value ms meta e n l = l
  non_null_level (v.Variable s) value ms meta e n l = l
  non_null_level (v.List s) value ms meta e n l = l
  non_null_level (v.Object s) value ms meta e n l = l

  alone_level : (x : v.InputValue-F S (InputValue S)) (value : InputValue S) (size : Option ℕ) (ms : List TypeModifier)
      (meta : MetaTypeOf S C)
      → value ≡ roll-InputValue S x → ((xs : Vec (Placed (InputValue S)) Global) → value ≡ variant.List xs → ⊥) → is_of_size size 1 ≡ true
      → Level x value ms meta → Level x value (m.List size ∷ ms) meta
  alone_level v.Null value size ms meta e n is l = refl
  alone_level (v.Variable s) value size ms meta e n is l = refl
  alone_level (v.List xs) value size ms meta e n is l = absurd (n xs (e ∙ variant.rolls-List xs))
  alone_level (v.Scalar s) value size ms meta e n is l = sized_if size 1 value (Level (v.Scalar s) value ms meta) is l
  alone_level (v.Enum s) value size ms meta e n is l = sized_if size 1 value (Level (v.Enum s) value ms meta) is l
  alone_level (v.Object s) value size ms meta e n is l = sized_if size 1 value (Level (v.Object s) value ms meta) is l

  same_check : (c d : C) → Some d ≡ Some c → c ≡ d
  same_check c d e = cc

  checked_if : (o : Option C) (c : C) (value : InputValue S) (meta : MetaTypeOf S C) → o ≡ Some c → Accepts may c value
      → checked may shown o value meta None
  checked_if None c value meta e accepts = absurd (some_none e)
  checked_if (Some d) c value meta e accepts = subst (λ z. Accepts may z value) (same_check c d e) accepts

  scalar_if : (b : Bool) (value : InputValue S) (meta : MetaTypeOf S C) → b ≡ false
      → checked may shown (check_of_meta meta) value meta None → unless_enum may shown b value meta None
  scalar_if true value meta e l = absurd cc
  scalar_if false value meta e l = l

  any_if : (b : Bool) (value : InputValue S) (meta : MetaTypeOf S C) (Otherwise : Type 0) → b ≡ true
      → checked may shown (check_of_meta meta) value meta None → unless_any may shown b value meta None Otherwise
  any_if true value meta Otherwise e l = l
  any_if false value meta Otherwise e l = absurd cc

  no_any_if : (b : Bool) (value : InputValue S) (meta : MetaTypeOf S C) (Otherwise : Type 0) → b ≡ false → Otherwise
      → unless_any may shown b value meta None Otherwise
  no_any_if true value meta Otherwise e o = absurd cc
  no_any_if false value meta Otherwise e o = o

  -- a value that the check of a type accepts, which takes any literal
  any_level : (x : v.InputValue-F S (InputValue S)) (value : InputValue S) (meta : MetaTypeOf S C)
      → takes_any schema meta ≡ true → checked may shown (check_of_meta meta) value meta None → Level x value [] meta
  any_level v.Null value meta e l = refl
  any_level (v.Variable n) value meta e l = refl
  any_level (v.Scalar s) value meta e l = scalar_if (is_enum_meta meta) value meta (no_enum_any schema.dialect meta e) l
  any_level (v.Enum n) value meta e l = l
  any_level (v.List xs) value meta e l = any_if (takes_any schema meta) value meta (IsSaid list_text None) e l
  any_level (v.Object es) value meta e l =
      any_if (takes_any schema meta) value meta
      (object_fault schema may shown (λ y. y) (judge_of schema may shown)
      (is_input_object_meta meta) meta es.items None) e l

  known_type : (o : Option (MetaTypeOf S C)) → is_some o ≡ true → (t : MetaTypeOf S C) × (o ≡ Some t)
  known_type None e = absurd cc
  known_type (Some t) e = (t, refl)

  -- the input field of a key, and its type
  type_of : (o : Option (Argument S)) → is_some (option_and_then (field_type schema) o) ≡ true → (a : Argument S)
      × (o ≡ Some a) × (t : MetaTypeOf S C) × (field_type schema a ≡ Some t)
  type_of None e = absurd cc
  type_of (Some a) e = let (t, is) = known_type (field_type schema a) e in (a, refl, t, is)

  object_if : (b : Bool) (meta : MetaTypeOf S C) (es : List (Entry (InputValue S))) → b ≡ true
      → FirstFault (entry schema may shown (λ y. y) (judge_of schema may shown) meta) (LacksFields meta (keys_of es)) es None
      → object_fault schema may shown (λ y. y) (judge_of schema may shown) b meta es None
  object_if true meta es e h = h
  object_if false meta es e h = absurd cc

  keyed_if : (meta : MetaTypeOf S C) (key : List ℕ) (o : Option (Argument S)) (a : Argument S) (t : MetaTypeOf S C)
      (value : InputValue S) → o ≡ Some a → field_type schema a ≡ Some t
      → NoFault value (within (reverse (shape a.arg_type).modifiers) t)
      → keyed schema may shown (λ y. y) (judge_of schema may shown) meta key o value None
  keyed_if meta key o a t value e is none =
      let w : WrappedMeta S C = record { meta = t; modifiers = (shape a.arg_type).modifiers } in
      subst (λ z. keyed schema may shown (λ y. y) (judge_of schema may shown) meta key z value None) (sym e)
      (w, (is, refl), None, subst (NoFault value) (within_of schema may shown w) none, refl)

  pub conforms_none : {value : InputValue S} {ms : List TypeModifier} {meta : MetaTypeOf S C}
      → Conforms schema may value ms meta → NoFault value (within ms meta)
  conforms_none (variable name {ms = ms} {meta = meta}) =
      of_level (variant.Variable name) (v.Variable name) ms meta (sym (variant.rolls-Variable name))
      (variable_level name (variant.Variable name) ms meta)
  conforms_none (null_name {meta = meta}) = of_level variant.Null v.Null [] meta (sym variant.rolls-Null) refl
  conforms_none (null_list {size = size} {ms = ms} {meta = meta}) =
      of_level variant.Null v.Null (m.List size ∷ ms) meta (sym variant.rolls-Null) refl
  conforms_none (non_null {value = value} {ms = ms} {meta = meta} n c) =
      let x = out-InputValue S value in
      let e = sym (roll-out-InputValue S value) in
      of_level value x (m.NonNull ∷ ms) meta e (non_null_level x value ms meta e n (to_level value x ms meta e (conforms_none c)))
  conforms_none (list xs {size = size} {ms = ms} {meta = meta} is each) =
      of_level (variant.List xs) (v.List xs) (m.List size ∷ ms) meta (sym (variant.rolls-List xs))
      (sized_if size (length xs.items) (variant.List xs) _ is
      (all_none (λ x. Judged schema may shown x.item (within ms meta)) IsNone xs.items (λ x there. conforms_none (each x there)) refl))
  conforms_none (alone {value = value} {size = size} {ms = ms} {meta = meta} n is c) =
      let x = out-InputValue S value in
      let e = sym (roll-out-InputValue S value) in
      of_level value x (m.List size ∷ ms) meta e (alone_level x value size ms meta e n is (to_level value x ms meta e (conforms_none c)))
  conforms_none (scalar s {c = c} {meta = meta} plain is accepts) =
      of_level (variant.Scalar s) (v.Scalar s) [] meta (sym (variant.rolls-Scalar s))
      (scalar_if (is_enum_meta meta) (variant.Scalar s) meta plain (checked_if (check_of_meta meta) c (variant.Scalar s) meta is accepts))
  conforms_none (enum_value name {c = c} {meta = meta} is accepts) =
      of_level (variant.Enum name) (v.Enum name) [] meta (sym (variant.rolls-Enum name))
      (checked_if (check_of_meta meta) c (variant.Enum name) meta is accepts)
  conforms_none (any_literal value {c = c} {meta = meta} takes is accepts) =
      let x = out-InputValue S value in
      of_level value x [] meta (sym (roll-out-InputValue S value))
      (any_level x value meta takes (checked_if (check_of_meta meta) c value meta is accepts))
  conforms_none (object es {meta = meta} is known each given) =
      of_level (variant.Object es) (v.Object es) [] meta (sym (variant.rolls-Object es))
      (no_any_if (takes_any schema meta) (variant.Object es) meta _ (object_not_any schema.dialect meta is)
      (object_if (is_input_object_meta meta) meta es.items is
      (all_none (entry schema may shown (λ y. y) (judge_of schema may shown) meta) (LacksFields meta (keys_of es.items)) es.items
      (λ e there.
      let (a, is_field, t, is_type) = type_of (input_field_named (key_of e) meta) (known e there) in
      keyed_if meta (key_of e) (input_field_named (key_of e) meta) a t e.1.item is_field is_type
      (conforms_none (each e a t there is_field is_type)))
      (ap (missing_fault (printed_name meta)) (sym (kept_none (keys_of es.items) (input_fields_of meta) [] refl given))))))

  -- from here on: what has no fault conforms
  abbrev Such : InputValue S → Type 0
  Such value = (w : WrappedMeta S C) → NoFault value w → Conforms schema may value (reverse w.modifiers) w.meta

  at_level : (value : InputValue S) (x : v.InputValue-F S (InputValue S)) → value ≡ roll-InputValue S x
      → ((ms : List TypeModifier) (meta : MetaTypeOf S C) → Level x value ms meta → Conforms schema may value ms meta)
      → Such value
  at_level value x e h w j = h (reverse w.modifiers) w.meta (transport (at_roll schema may shown value x w None e) j)

  abbrev Is : InputValue S → v.InputValue-F S (InputValue S) → Type 0
  Is value x = out-InputValue S value ≡ x

  is_rolled : (value : InputValue S) (x : v.InputValue-F S (InputValue S)) → roll-InputValue S x ≡ value → out-InputValue S value ≡ x
  is_rolled value x e = ap (out-InputValue S) (sym e) ∙ out-roll-InputValue S x

  abbrev null_layer : v.InputValue-F S (InputValue S) → Bool
  null_layer v.Null = true
  null_layer _ = false

  abbrev list_layer : v.InputValue-F S (InputValue S) → Bool
  list_layer (v.List xs) = true
  list_layer _ = false

  true_false : {b : Bool} → b ≡ true → b ≡ false → ⊥
  true_false e f = cc

  not_null : (value : InputValue S) (x : v.InputValue-F S (InputValue S)) → roll-InputValue S x ≡ value
      → null_layer x ≡ false → value ≡ variant.Null → ⊥
  not_null value x e other is =
      true_false (ap null_layer (is_rolled value v.Null (variant.rolls-Null ∙ sym is))) (ap null_layer (is_rolled value x e) ∙ other)

  not_list : (value : InputValue S) (x : v.InputValue-F S (InputValue S)) → roll-InputValue S x ≡ value
      → list_layer x ≡ false → (xs : Vec (Placed (InputValue S)) Global) → value ≡ variant.List xs → ⊥
  not_list value x e other xs is =
      true_false (ap list_layer (is_rolled value (v.List xs) (variant.rolls-List xs ∙ sym is)))
      (ap list_layer (is_rolled value x e) ∙ other)

  to_null : (ms : List TypeModifier) (meta : MetaTypeOf S C) → Level v.Null variant.Null ms meta → Conforms schema may variant.Null ms meta
  to_null [] meta l = null_name
  to_null (m.NonNull ∷ ms) meta l = absurd (some_none l)
  to_null (m.List size ∷ ms) meta l = null_list

  accepted : (o : Option C) (value : InputValue S) (meta : MetaTypeOf S C) → checked may shown o value meta None
      → (c : C) × (o ≡ Some c) × Accepts may c value
  accepted None value meta l = absurd (some_none l)
  accepted (Some c) value meta l = (c, refl, l)

  no_enum : (b : Bool) (value : InputValue S) (meta : MetaTypeOf S C) → unless_enum may shown b value meta None
      → (b ≡ false) × checked may shown (check_of_meta meta) value meta None
  no_enum true value meta l = absurd (some_none l)
  no_enum false value meta l = (refl, l)

  to_scalar : (s : S) (ms : List TypeModifier) (meta : MetaTypeOf S C) → Level (v.Scalar s) (variant.Scalar s) ms meta
      → Conforms schema may (variant.Scalar s) ms meta
  to_scalar s [] meta l =
      let (is, l') = no_enum (is_enum_meta meta) (variant.Scalar s) meta l in
      let (c, has, accepts) = accepted (check_of_meta meta) (variant.Scalar s) meta l' in
      scalar s is has accepts
  to_scalar s (m.NonNull ∷ ms) meta l =
      non_null (not_null (variant.Scalar s) (v.Scalar s) (variant.rolls-Scalar s) refl) (to_scalar s ms meta l)
  to_scalar s (m.List size ∷ ms) meta l =
      let (is, l') = if_sized size 1 (variant.Scalar s) (Level (v.Scalar s) (variant.Scalar s) ms meta) l in
      alone (not_list (variant.Scalar s) (v.Scalar s) (variant.rolls-Scalar s) refl) is (to_scalar s ms meta l')

  to_enum : (n : String Global) (ms : List TypeModifier) (meta : MetaTypeOf S C)
      → Level (v.Enum n) (variant.Enum n) ms meta → Conforms schema may (variant.Enum n) ms meta
  to_enum n [] meta l = let (c, has, accepts) = accepted (check_of_meta meta) (variant.Enum n) meta l in enum_value n has accepts
  to_enum n (m.NonNull ∷ ms) meta l = non_null (not_null (variant.Enum n) (v.Enum n) (variant.rolls-Enum n) refl) (to_enum n ms meta l)
  to_enum n (m.List size ∷ ms) meta l =
      let (is, l') = if_sized size 1 (variant.Enum n) (Level (v.Enum n) (variant.Enum n) ms meta) l in
      alone (not_list (variant.Enum n) (v.Enum n) (variant.rolls-Enum n) refl) is (to_enum n ms meta l')

  -- what a check judges, or else what has no other fault
  to_any_by : (b : Bool) (value : InputValue S) (meta : MetaTypeOf S C) (Otherwise : Type 0) → takes_any schema meta ≡ b
      → (Otherwise → Conforms schema may value [] meta)
      → unless_any may shown b value meta None Otherwise → Conforms schema may value [] meta
  to_any_by true value meta Otherwise e h l =
      let (c, has, accepts) = accepted (check_of_meta meta) value meta l in any_literal value e has accepts
  to_any_by false value meta Otherwise e h l = h l

  to_list : (xs : Vec (Placed (InputValue S)) Global) → Each (λ x. Such x.item) xs.items
      → (ms : List TypeModifier) (meta : MetaTypeOf S C) → Level (v.List xs) (variant.List xs) ms meta
      → Conforms schema may (variant.List xs) ms meta
  to_list xs h [] meta l =
      to_any_by (takes_any schema meta) (variant.List xs) meta (IsSaid list_text None) refl
      (λ o. absurd (some_none o)) l
  to_list xs h (m.NonNull ∷ ms) meta l =
      non_null (not_null (variant.List xs) (v.List xs) (variant.rolls-List xs) refl) (to_list xs h ms meta l)
  to_list xs h (m.List size ∷ ms) meta l =
      let tells : Telling (Placed (InputValue S)) = λ x. Judged schema may shown x.item (within ms meta) in
      let (is, l') = if_sized size (length xs.items) (variant.List xs) (FirstFault tells IsNone xs.items None) l in
      list xs is (λ x there. subst (λ z. Conforms schema may x.item z meta) (reverse-reverse ms)
      (each_contains (λ x. Such x.item) xs.items h x there (within ms meta) (none_of tells IsNone xs.items l' x there)))

  known_key : (meta : MetaTypeOf S C) (key : List ℕ) (o : Option (Argument S)) (value : InputValue S)
      → keyed schema may shown (λ y. y) (judge_of schema may shown) meta key o value None
      → is_some (option_and_then (field_type schema) o) ≡ true
  known_key meta key None value l = absurd (some_none l)
  known_key meta key (Some a) value (w, made, n, told, is) = ap is_some made.0

  same_meta : (o : Option (MetaTypeOf S C)) (t u : MetaTypeOf S C) → o ≡ Some t → o ≡ Some u → t ≡ u
  same_meta o t u e f = cc

  under_key : (meta : MetaTypeOf S C) (key : List ℕ) (o : Option (Argument S)) (a : Argument S) (t : MetaTypeOf S C)
      (value : InputValue S) → Such value → o ≡ Some a → field_type schema a ≡ Some t
      → keyed schema may shown (λ y. y) (judge_of schema may shown) meta key o value None
      → Conforms schema may value (reverse (shape a.arg_type).modifiers) t
  under_key meta key o a t value h e is l =
      let (w, made, n, told, at) = subst (λ z. keyed schema may shown (λ y. y) (judge_of schema may shown) meta key z value None) e l in
      let c = h w (subst (λ z. Judged schema may shown value w z) (map_none _ n at) told) in
      subst (λ z. Conforms schema may value (reverse (shape a.arg_type).modifiers) z) (same_meta (field_type schema a) w.meta t made.0 is)
      (subst (λ z. Conforms schema may value (reverse z) w.meta) made.1 c)

  to_object_by : (b : Bool) (es : Vec (Entry (InputValue S)) Global) (meta : MetaTypeOf S C)
      → Each (λ e. Such e.1.item) es.items → is_input_object_meta meta ≡ b
      → object_fault schema may shown (λ y. y) (judge_of schema may shown) b meta es.items None
      → Conforms schema may (variant.Object es) [] meta
  to_object_by false es meta h is l = absurd (some_none l)
  to_object_by true es meta h is l =
      let tells = entry schema may shown (λ y. y) (judge_of schema may shown) meta in
      let entries = none_of tells (LacksFields meta (keys_of es.items)) es.items l in
      let lacks = none_at_end tells (LacksFields meta (keys_of es.items)) es.items l in
      object es is
      (λ e there. known_key meta (key_of e) (input_field_named (key_of e) meta) e.1.item (entries e there))
      (λ e a t there is_field is_type.
      under_key meta (key_of e) (input_field_named (key_of e) meta) a t e.1.item
      (each_contains (λ e. Such e.1.item) es.items h e there) is_field is_type (entries e there))
      ((none_kept (keys_of es.items) (input_fields_of meta) []
      (missing_none (printed_name meta) (missing (keys_of es.items) (input_fields_of meta)) lacks)).1)

  to_object : (es : Vec (Entry (InputValue S)) Global) → Each (λ e. Such e.1.item) es.items
      → (ms : List TypeModifier) (meta : MetaTypeOf S C) → Level (v.Object es) (variant.Object es) ms meta
      → Conforms schema may (variant.Object es) ms meta
  to_object es h [] meta l =
      to_any_by (takes_any schema meta) (variant.Object es) meta _ refl (to_object_by (is_input_object_meta meta) es meta h refl) l
  to_object es h (m.NonNull ∷ ms) meta l =
      non_null (not_null (variant.Object es) (v.Object es) (variant.rolls-Object es) refl) (to_object es h ms meta l)
  to_object es h (m.List size ∷ ms) meta l =
      let (is, l') = if_sized size 1 (variant.Object es) (Level (v.Object es) (variant.Object es) ms meta) l in
      alone (not_list (variant.Object es) (v.Object es) (variant.rolls-Object es) refl) is (to_object es h ms meta l')

  pub none_conforms : (value : InputValue S) → Such value
  none_conforms =
      value_induction Such
      (at_level variant.Null v.Null (sym variant.rolls-Null) to_null)
      (λ s. at_level (variant.Scalar s) (v.Scalar s) (sym (variant.rolls-Scalar s)) (to_scalar s))
      (λ n. at_level (variant.Enum n) (v.Enum n) (sym (variant.rolls-Enum n)) (to_enum n))
      (λ n. at_level (variant.Variable n) (v.Variable n) (sym (variant.rolls-Variable n)) (λ ms meta l. variable n))
      (λ xs h. at_level (variant.List xs) (v.List xs) (sym (variant.rolls-List xs)) (to_list xs h))
      (λ es h. at_level (variant.Object es) (v.Object es) (sym (variant.rolls-Object es)) (to_object es h))

  of_type : (t : TypeShape) (value : InputValue S) (o : Option (MetaTypeOf S C))
      → FaultAt schema may shown value (option_map (λ meta. record { meta = meta; modifiers = t.modifiers }) o) None
      ↔ ((meta : MetaTypeOf S C) → o ≡ Some meta → Conforms schema may value (reverse t.modifiers) meta)
  of_type t value None = (λ l. λ meta is. absurd (some_none is), λ h. refl)
  of_type t value (Some u) =
      let w : WrappedMeta S C = record { meta = u; modifiers = t.modifiers } in (
        λ l. λ meta is. subst (λ z. Conforms schema may value (reverse t.modifiers) z)
            (same_meta (Some u) u meta refl is) (none_conforms value w l),
        λ h. subst (NoFault value) (within_of schema may shown w) (conforms_none (h u refl)),
      )

  -- a value has no fault against a type as it is written if and only if it conforms to it
  pub written_conforms : (t : TypeShape) (value : InputValue S) → WrittenFault schema may shown value t None ↔ ConformsTo schema may t value
  written_conforms t value = of_type t value (type_in t.name schema)
