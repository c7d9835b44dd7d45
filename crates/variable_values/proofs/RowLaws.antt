-- What stands round a type, row by row.
use Rattle.std.specs.Option.{option_map_or}
use Rattle.meta.specs.Kinds.{is_input_meta}
use Rattle.variable_values.specs.declared.rows.Row.{Row}
use Rattle.variable_values.specs.declared.rows.Row.TheVariants as r
use Rattle.variable_values.specs.Inputs.{is_input_in}
use Rattle.std.proofs.Common.{◌≡◌, false, ℕ, ◌-◌, ◌+◌, ◌<◌, List, [], ◌∷◌, ◌++◌, Option, Some, None, true, length, take, get_or, reverse, append_assoc, refl, ap, sym, ◌∙◌, subst, arith}
use Rattle.std.specs.Prelude.{Vec, if◌then◌else◌, is_some, slice_get}
use Rattle.std.specs.declared.alloc.Global.{Global}
use Rattle.language_types.specs.declared.position.Span.{Span}
use Rattle.language_types.specs.declared.position.Spanning.{Spanning}
use Rattle.std.proofs.Math.Path.{transport}
use Rattle.std.proofs.Math.Seq.{take-length}
use Rattle.std.proofs.lemmas.List.{reverse-append, reverse-reverse, length-take, take_more}
use Rattle.std.proofs.lemmas.Option.{slice_get_within, get_or_from_slice_get, slice_get-get_or}
use Rattle.language_types.specs.declared.types.TypeModifier.{TypeModifier}
use Rattle.language_types.specs.declared.types.TypeModifier.TheVariants as m
use Rattle.language_values.specs.declared.value.InputValue.{InputValue, roll-InputValue, out-InputValue, roll-out-InputValue, out-roll-InputValue}
use Rattle.language_values.specs.declared.value.InputValue.TheVariants as variant
use Rattle.language_values.specs.declared.value.InputValue.TheOpen as v
use Rattle.language_types.specs.Types.{TypeShape, wrapped_by, inner_of, outermost, printed}
use Rattle.language_values.specs.Values.{list_items, items_layer}
use Rattle.meta.specs.Answers.{Answers}
use Rattle.meta.specs.declared.kinds.MetaTypeOf.{MetaTypeOf}
use Rattle.schema.specs.Catalog.{Catalog, type_in}
use Rattle.schema.specs.Possible.{is_among}
use Rattle.variable_values.specs.Faults.{Fault, Faults, Of, OfMeta, OfNamed, enum_faults, here, judge_of, within, wrong_length}
use Rattle.variable_values.specs.Rows.{ByMeta, ByName, HasName, IsKnownRow, OfItems, Others, SaysItems, length_of_one, lengths_at, lengths_of, lengths_of_one}
use Rattle.variable_values.specs.Texts.{enum_text, null_text}
use Rattle.variable_values.proofs.Unfold.{faults-roll}

-- ---- types
all_taken : {X : Type 0} (xs : List X) (i : ℕ) (x : X) → i ≡ length xs - 1 → slice_get xs i ≡ Some x → xs ≡ take i xs ++ x ∷ []
all_taken xs i x e g =
    let here : i < length xs = slice_get_within xs i x g in
    let end : i + 1 ≡ length xs = omega arith in
    sym (take-length xs) ∙ ap (λ n. take n xs) (sym end) ∙ take_more xs i x here ∙ ap (λ y. take i xs ++ y ∷ []) (get_or_from_slice_get xs i x x g)

-- a type by its outermost modifier
pub unwrapped : (t : TypeShape) (x : TypeModifier) → outermost t.modifiers ≡ Some x → t ≡ wrapped_by x (inner_of t)
unwrapped t x e = ap (λ (ms : List TypeModifier). let r : TypeShape = record { name = t.name; modifiers = ms } in r) (all_taken t.modifiers (length t.modifiers - 1) x refl e)

-- the inner type has fewer modifiers
pub shorter : (t u : TypeShape) (x : TypeModifier) → outermost t.modifiers ≡ Some x → u ≡ inner_of t → length u.modifiers < length t.modifiers
shorter t u x e i =
    let here : length t.modifiers - 1 < length t.modifiers = slice_get_within t.modifiers (length t.modifiers - 1) x e in
    let same : length u.modifiers ≡ length (take (length t.modifiers - 1) t.modifiers) = ap (λ (w : TypeShape). length w.modifiers) i in
    let few = length-take (length t.modifiers - 1) t.modifiers in
    omega (arith, few)

pub no_modifier : (ms : List TypeModifier) → outermost ms ≡ None → ms ≡ []
no_modifier [] e = refl
no_modifier (x ∷ ms) e =
    let last : slice_get (x ∷ ms) (length (x ∷ ms) - 1) ≡ Some (get_or (x ∷ ms) (length (x ∷ ms) - 1) x) = slice_get-get_or (x ∷ ms) (length (x ∷ ms) - 1) x (omega arith) in
    cc

-- a row whose names are a known type's
pub known_names : {S C : Type 0} (schema : Catalog S C) (t : TypeShape) (x : Row) → is_input_in schema t.name ≡ true → HasName t x → IsKnownRow schema x
known_names schema t r.Nothing k h = h
known_names schema t (r.Null at) k h = h
known_names schema t (r.Items inner size) k h = ap (is_input_in schema) h ∙ k
known_names schema t (r.Named name) k h = ap (is_input_in schema) h ∙ k

-- the type of a name that is an input type's
pub known_input : {S C : Type 0} (schema : Catalog S C) (name : List ℕ) (meta : MetaTypeOf S C) → type_in name schema ≡ Some meta → is_input_in schema name ≡ true → is_input_meta meta ≡ true
known_input schema name meta e k = sym (ap (λ o. option_map_or is_input_meta o false) e) ∙ k

pub no_type : {S C : Type 0} (schema : Catalog S C) (name : List ℕ) → type_in name schema ≡ None → is_input_in schema name ≡ true → ⊥
no_type schema name e k = let bad : false ≡ true = sym (ap (λ o. option_map_or is_input_meta o false) e) ∙ k in cc

pub within_of : (t : TypeShape) → within (reverse t.modifiers) t.name ≡ t
within_of t = ap (λ (ms : List TypeModifier). let r : TypeShape = record { name = t.name; modifiers = ms } in r) (reverse-reverse t.modifiers)

pub within_wrap : (x : TypeModifier) (t : TypeShape) → wrapped_by x t ≡ within (x ∷ reverse t.modifiers) t.name
within_wrap x t = sym (within_of (wrapped_by x t)) ∙ ap (λ ms. within ms t.name) (reverse-append t.modifiers (x ∷ []))

-- ---- lengths of lists of one
lengths_more : (x : TypeModifier) (t : TypeShape) → lengths_of_one (reverse (wrapped_by x t).modifiers) ≡ lengths_of_one (x ∷ reverse t.modifiers)
lengths_more x t = ap lengths_of_one (reverse-append t.modifiers (x ∷ []))

-- a name that no value of the enum has
pub enum_unlisted : (name : List ℕ) (values : List (List ℕ)) (o : Option (List ℕ)) (n : List ℕ) → o ≡ Some n → is_among values n ≡ false → here (enum_text name) ∷ [] ≡ enum_faults name values o
enum_unlisted name values o n e h = ap (λ b. if b then [] else here (enum_text name) ∷ []) (sym h) ∙ ap (enum_faults name values) (sym e)

module _ {S : Type 0} where
  is_out : (value : InputValue S) (x : v.InputValue-F S (InputValue S)) → value ≡ roll-InputValue S x → out-InputValue S value ≡ x
  is_out value x e = ap (out-InputValue S) e ∙ out-roll-InputValue S x

  -- null has none
  pub lengths_null : (value : InputValue S) (t : TypeShape) → value ≡ variant.Null → lengths_of value t ≡ []
  lengths_null value t n = ap (λ x. lengths_at x t) (is_out value v.Null (n ∙ sym variant.rolls-Null))

  lengths_items : (x : v.InputValue-F S (InputValue S)) (t : TypeShape) → is_some (items_layer x) ≡ true → lengths_at x t ≡ []
  lengths_items (v.List xs) t l = refl
  lengths_items v.Null t l = refl
  lengths_items (v.Scalar s) t l = cc
  lengths_items (v.Enum s) t l = cc
  lengths_items (v.Variable s) t l = cc
  lengths_items (v.Object s) t l = cc

  -- a list has items
  pub is_listed : (value : InputValue S) (xs : Vec (Spanning (InputValue S) Span) Global) → value ≡ variant.List xs → is_some (list_items value) ≡ true
  is_listed value xs e = ap (λ x. is_some (items_layer x)) (is_out value (v.List xs) (e ∙ sym (variant.rolls-List xs)))

  -- nor has a list
  pub lengths_list : (value : InputValue S) (t : TypeShape) → is_some (list_items value) ≡ true → lengths_of value t ≡ []
  lengths_list value t l = lengths_items (out-InputValue S value) t l

  lengths_plain_at : (x : v.InputValue-F S (InputValue S)) (t : TypeShape) → t.modifiers ≡ [] → lengths_at x t ≡ []
  lengths_plain_at v.Null t e = refl
  lengths_plain_at (v.List xs) t e = refl
  lengths_plain_at (v.Scalar s) t e = ap (λ ms. lengths_of_one (reverse ms)) e
  lengths_plain_at (v.Enum s) t e = ap (λ ms. lengths_of_one (reverse ms)) e
  lengths_plain_at (v.Variable s) t e = ap (λ ms. lengths_of_one (reverse ms)) e
  lengths_plain_at (v.Object s) t e = ap (λ ms. lengths_of_one (reverse ms)) e

  -- a plain name asks for none
  pub lengths_plain : (value : InputValue S) (t : TypeShape) → outermost t.modifiers ≡ None → lengths_of value t ≡ []
  lengths_plain value t o = lengths_plain_at (out-InputValue S value) t (no_modifier t.modifiers o)

  lengths_non_null_at : (x : v.InputValue-F S (InputValue S)) (t : TypeShape) → lengths_at x (wrapped_by m.NonNull t) ≡ lengths_at x t
  lengths_non_null_at v.Null t = refl
  lengths_non_null_at (v.List xs) t = refl
  lengths_non_null_at (v.Scalar s) t = lengths_more m.NonNull t
  lengths_non_null_at (v.Enum s) t = lengths_more m.NonNull t
  lengths_non_null_at (v.Variable s) t = lengths_more m.NonNull t
  lengths_non_null_at (v.Object s) t = lengths_more m.NonNull t

  -- a non-null asks for none of its own
  pub lengths_non_null : (value : InputValue S) (t : TypeShape) → lengths_of value (wrapped_by m.NonNull t) ≡ lengths_of value t
  lengths_non_null value t = lengths_non_null_at (out-InputValue S value) t

  lengths_single_at : (value : InputValue S) (x : v.InputValue-F S (InputValue S)) (size : Option ℕ) (t : TypeShape) → value ≡ roll-InputValue S x → (value ≡ variant.Null → ⊥) → items_layer x ≡ None
      → lengths_at x (wrapped_by (m.List size) t) ≡ wrong_length size 1 ++ lengths_at x t
  lengths_single_at value v.Null size t e n l = absurd (n (e ∙ variant.rolls-Null))
  lengths_single_at value (v.List xs) size t e n l = cc
  lengths_single_at value (v.Scalar s) size t e n l = lengths_more (m.List size) t
  lengths_single_at value (v.Enum s) size t e n l = lengths_more (m.List size) t
  lengths_single_at value (v.Variable s) size t e n l = lengths_more (m.List size) t
  lengths_single_at value (v.Object s) size t e n l = lengths_more (m.List size) t

  -- a list asks for its own
  pub lengths_single : (value : InputValue S) (size : Option ℕ) (t : TypeShape) → (value ≡ variant.Null → ⊥) → list_items value ≡ None
      → lengths_of value (wrapped_by (m.List size) t) ≡ wrong_length size 1 ++ lengths_of value t
  lengths_single value size t n l = lengths_single_at value (out-InputValue S value) size t (sym (roll-out-InputValue S value)) n l

  not_null_list : (value : InputValue S) (x : v.InputValue-F S (InputValue S)) (t : TypeShape) → value ≡ roll-InputValue S x → (value ≡ variant.Null → ⊥)
      → ((xs : Vec (Spanning (InputValue S) Span) Global) → value ≡ variant.List xs → ⊥) → lengths_at x t ≡ lengths_of_one (reverse t.modifiers)
  not_null_list value v.Null t e n l = absurd (n (e ∙ variant.rolls-Null))
  not_null_list value (v.List xs) t e n l = absurd (l xs (e ∙ variant.rolls-List xs))
  not_null_list value (v.Scalar s) t e n l = refl
  not_null_list value (v.Enum s) t e n l = refl
  not_null_list value (v.Variable s) t e n l = refl
  not_null_list value (v.Object s) t e n l = refl

  -- any other value has those of its type
  pub lengths_other : (value : InputValue S) (t : TypeShape) → (value ≡ variant.Null → ⊥) → ((xs : Vec (Spanning (InputValue S) Span) Global) → value ≡ variant.List xs → ⊥)
      → lengths_of value t ≡ lengths_of_one (reverse t.modifiers)
  lengths_other value t n l = not_null_list value (out-InputValue S value) t (sym (roll-out-InputValue S value)) n l

-- the length of the outermost modifier, and those of the others
pub lengths_first : (x : TypeModifier) (ms : List TypeModifier) → lengths_of_one (x ∷ ms) ≡ length_of_one x ++ lengths_of_one ms
lengths_first m.NonNull ms = refl
lengths_first (m.List size) ms = refl

-- the lengths of a type by its outermost modifier
pub lengths_none : (t : TypeShape) → outermost t.modifiers ≡ None → lengths_of_one (reverse t.modifiers) ≡ []
lengths_none t o = ap (λ ms. lengths_of_one (reverse ms)) (no_modifier t.modifiers o)

pub lengths_outer : (t u : TypeShape) (x : TypeModifier) → outermost t.modifiers ≡ Some x → u ≡ inner_of t → lengths_of_one (reverse t.modifiers) ≡ lengths_of_one (x ∷ reverse u.modifiers)
lengths_outer t u x o e =
    ap (λ (w : TypeShape). lengths_of_one (reverse w.modifiers)) (unwrapped t x o) ∙ ap lengths_of_one (reverse-append (inner_of t).modifiers (x ∷ [])) ∙ ap (λ (w : TypeShape). lengths_of_one (x ∷ reverse w.modifiers)) (sym e)

module _ {S C : Type 0} (schema : Catalog S C) (may : Answers (InputValue S) C) (text : S → List ℕ) (str_of : S → Option (List ℕ)) where
  abbrev pub OfLevel : v.InputValue-F S (InputValue S) → InputValue S → List TypeModifier → List ℕ → List Fault → Type 0
  OfLevel = Of schema may text str_of (λ y. y) (judge_of schema may text str_of)

  pub at_roll : (value : InputValue S) (x : v.InputValue-F S (InputValue S)) (t : TypeShape) (fs : List Fault) → value ≡ roll-InputValue S x
      → Faults schema may text str_of value t fs ≡ OfLevel x value (reverse t.modifiers) t.name fs
  at_roll value x t fs e =
      ap (λ u. Faults schema may text str_of u t fs) e ∙ faults-roll schema may text str_of x t fs ∙ ap (λ u. OfLevel x u (reverse t.modifiers) t.name fs) (sym e)

  pub at_wrap : (value : InputValue S) (x : v.InputValue-F S (InputValue S)) (m : TypeModifier) (t : TypeShape) (fs : List Fault) → value ≡ roll-InputValue S x
      → Faults schema may text str_of value (wrapped_by m t) fs ≡ OfLevel x value (m ∷ reverse t.modifiers) t.name fs
  at_wrap value x m t fs e = at_roll value x (wrapped_by m t) fs e ∙ ap (λ ms. OfLevel x value ms t.name fs) (reverse-append t.modifiers (m ∷ []))

  pub is_roll : (value : InputValue S) (x : v.InputValue-F S (InputValue S)) → out-InputValue S value ≡ x → value ≡ roll-InputValue S x
  is_roll value x o = sym (roll-out-InputValue S value) ∙ ap (roll-InputValue S) o

  -- null, where the type is never null
  pub null_row : (value : InputValue S) (t : TypeShape) (fs : List Fault) → value ≡ variant.Null
      → fs ≡ here (null_text (printed (wrapped_by m.NonNull t))) ∷ [] → Faults schema may text str_of value (wrapped_by m.NonNull t) fs
  null_row value t fs n e =
      transport (sym (at_wrap value v.Null m.NonNull t fs (n ∙ sym variant.rolls-Null)))
      (e ∙ ap (λ u. here (null_text (printed u)) ∷ []) (within_wrap m.NonNull t))

  -- null, where the type is a list
  pub free_row : (value : InputValue S) (size : Option ℕ) (t : TypeShape) (fs : List Fault) → value ≡ variant.Null
      → fs ≡ [] → Faults schema may text str_of value (wrapped_by (m.List size) t) fs
  free_row value size t fs n e = transport (sym (at_wrap value v.Null (m.List size) t fs (n ∙ sym variant.rolls-Null))) e

  -- another value, where the type is never null
  other_row : (value : InputValue S) (x : v.InputValue-F S (InputValue S)) (t : TypeShape) (fs : List Fault) → value ≡ roll-InputValue S x → (value ≡ variant.Null → ⊥)
      → Faults schema may text str_of value t fs → Faults schema may text str_of value (wrapped_by m.NonNull t) fs
  other_row value v.Null t fs e n j = absurd (n (e ∙ variant.rolls-Null))
  other_row value (v.Scalar s) t fs e n j = transport (sym (at_wrap value (v.Scalar s) m.NonNull t fs e)) (transport (at_roll value (v.Scalar s) t fs e) j)
  other_row value (v.Enum s) t fs e n j = transport (sym (at_wrap value (v.Enum s) m.NonNull t fs e)) (transport (at_roll value (v.Enum s) t fs e) j)
  other_row value (v.Variable s) t fs e n j = transport (sym (at_wrap value (v.Variable s) m.NonNull t fs e)) (transport (at_roll value (v.Variable s) t fs e) j)
  other_row value (v.List s) t fs e n j = transport (sym (at_wrap value (v.List s) m.NonNull t fs e)) (transport (at_roll value (v.List s) t fs e) j)
  other_row value (v.Object s) t fs e n j = transport (sym (at_wrap value (v.Object s) m.NonNull t fs e)) (transport (at_roll value (v.Object s) t fs e) j)

  pub non_null_row : (value : InputValue S) (t : TypeShape) (fs : List Fault) → (value ≡ variant.Null → ⊥)
      → Faults schema may text str_of value t fs → Faults schema may text str_of value (wrapped_by m.NonNull t) fs
  non_null_row value t fs n j = other_row value (out-InputValue S value) t fs (is_roll value (out-InputValue S value) refl) n j

  -- one value, where the type is a list
  through_row : (value : InputValue S) (x : v.InputValue-F S (InputValue S)) (size : Option ℕ) (t : TypeShape) (fs : List Fault) → value ≡ roll-InputValue S x → (value ≡ variant.Null → ⊥) → items_layer x ≡ None
      → Faults schema may text str_of value t fs → Faults schema may text str_of value (wrapped_by (m.List size) t) (wrong_length size 1 ++ fs)
  through_row value v.Null size t fs e n l j = absurd (n (e ∙ variant.rolls-Null))
  through_row value (v.Scalar s) size t fs e n l j = transport (sym (at_wrap value (v.Scalar s) (m.List size) t (wrong_length size 1 ++ fs) e)) (fs, transport (at_roll value (v.Scalar s) t fs e) j, refl)
  through_row value (v.Enum s) size t fs e n l j = transport (sym (at_wrap value (v.Enum s) (m.List size) t (wrong_length size 1 ++ fs) e)) (fs, transport (at_roll value (v.Enum s) t fs e) j, refl)
  through_row value (v.Variable s) size t fs e n l j = transport (sym (at_wrap value (v.Variable s) (m.List size) t (wrong_length size 1 ++ fs) e)) (fs, transport (at_roll value (v.Variable s) t fs e) j, refl)
  through_row value (v.Object s) size t fs e n l j = transport (sym (at_wrap value (v.Object s) (m.List size) t (wrong_length size 1 ++ fs) e)) (fs, transport (at_roll value (v.Object s) t fs e) j, refl)
  through_row value (v.List s) size t fs e n l j = cc

  pub single_row : (value : InputValue S) (size : Option ℕ) (t : TypeShape) (fs : List Fault) → (value ≡ variant.Null → ⊥) → list_items value ≡ None
      → Faults schema may text str_of value t fs → Faults schema may text str_of value (wrapped_by (m.List size) t) (wrong_length size 1 ++ fs)
  single_row value size t fs n l j = through_row value (out-InputValue S value) size t fs (is_roll value (out-InputValue S value) refl) n l j

  -- a list
  listed_row : (value : InputValue S) (x : v.InputValue-F S (InputValue S)) (size : Option ℕ) (t : TypeShape) (fs : List Fault) → value ≡ roll-InputValue S x
      → SaysItems schema may text str_of (items_layer x) t size fs → Faults schema may text str_of value (wrapped_by (m.List size) t) fs
  listed_row value v.Null size t fs e j = absurd j
  listed_row value (v.Scalar s) size t fs e j = absurd j
  listed_row value (v.Enum s) size t fs e j = absurd j
  listed_row value (v.Variable s) size t fs e j = absurd j
  listed_row value (v.Object s) size t fs e j = absurd j
  listed_row value (v.List s) size t fs e j =
      transport (sym (at_wrap value (v.List s) (m.List size) t fs e))
      (transport (ap (λ u. (gs : List Fault) × OfItems schema may text str_of u s.items gs × (fs ≡ wrong_length size (length s.items) ++ gs)) (sym (within_of t))) j)

  pub items_row : (value : InputValue S) (size : Option ℕ) (t : TypeShape) (fs : List Fault) → SaysItems schema may text str_of (list_items value) t size fs → Faults schema may text str_of value (wrapped_by (m.List size) t) fs
  items_row value size t fs j = listed_row value (out-InputValue S value) size t fs (is_roll value (out-InputValue S value) refl) j

  -- a plain name
  pub named_row : (value : InputValue S) (t : TypeShape) (name : List ℕ) (fs : List Fault) → outermost t.modifiers ≡ None → name ≡ t.name → ByName schema may text str_of value (type_in name schema) fs → Faults schema may text str_of value t fs
  named_row value t name fs o n j =
      transport (sym (at_roll value (out-InputValue S value) t fs (is_roll value (out-InputValue S value) refl)))
      (subst (λ ms. OfLevel (out-InputValue S value) value ms t.name fs) (sym (ap reverse (no_modifier t.modifiers o)))
      (subst (λ k. ByName schema may text str_of value (type_in k schema) fs) n j))

  -- the same at a type that is such a one
  pub moved : (value : InputValue S) (u t : TypeShape) (fs : List Fault) → u ≡ t → Faults schema may text str_of value t fs → Faults schema may text str_of value u fs
  moved value u t fs e j = transport (ap (λ z. Faults schema may text str_of value z fs) (sym e)) j

  -- ---- the faults of a value that are not those of the length
  -- where there is none of the length, those are all
  pub all_others : (value : InputValue S) (t : TypeShape) (fs : List Fault) → lengths_of value t ≡ [] → Faults schema may text str_of value t fs → Others schema may text str_of value t fs
  all_others value t fs e j = subst (λ ls. Faults schema may text str_of value t (ls ++ fs)) (sym e) j

  pub others_non_null : (value : InputValue S) (t : TypeShape) (fs : List Fault) → (value ≡ variant.Null → ⊥) → Others schema may text str_of value t fs → Others schema may text str_of value (wrapped_by m.NonNull t) fs
  others_non_null value t fs n j =
      subst (λ ls. Faults schema may text str_of value (wrapped_by m.NonNull t) (ls ++ fs)) (sym (lengths_non_null value t)) (non_null_row value t (lengths_of value t ++ fs) n j)

  pub others_single : (value : InputValue S) (size : Option ℕ) (t : TypeShape) (fs : List Fault) → (value ≡ variant.Null → ⊥) → list_items value ≡ None
      → Others schema may text str_of value t fs → Others schema may text str_of value (wrapped_by (m.List size) t) fs
  others_single value size t fs n l j =
      subst (Faults schema may text str_of value (wrapped_by (m.List size) t))
      (sym (append_assoc (wrong_length size 1) (lengths_of value t) fs) ∙ ap (λ ls. ls ++ fs) (sym (lengths_single value size t n l)))
      (single_row value size t (lengths_of value t ++ fs) n l j)

  pub moved_others : (value : InputValue S) (u t : TypeShape) (fs : List Fault) → u ≡ t → Others schema may text str_of value t fs → Others schema may text str_of value u fs
  moved_others value u t fs e j = transport (ap (λ z. Others schema may text str_of value z fs) (sym e)) j

  -- those of the length, and the others
  pub with_others : (value : InputValue S) (t : TypeShape) (fs gs : List Fault) → fs ≡ lengths_of value t → Others schema may text str_of value t gs → Faults schema may text str_of value t (fs ++ gs)
  with_others value t fs gs e j = subst (λ ls. Faults schema may text str_of value t (ls ++ gs)) (sym e) j

  -- ---- a value by a name
  out_null : (value : InputValue S) → value ≡ variant.Null → out-InputValue S value ≡ v.Null
  out_null value n = ap (out-InputValue S) (n ∙ sym variant.rolls-Null) ∙ out-roll-InputValue S v.Null

  pub null_by_name : (value : InputValue S) (meta : Option (MetaTypeOf S C)) (fs : List Fault) → value ≡ variant.Null → fs ≡ [] → ByName schema may text str_of value meta fs
  null_by_name value meta fs n e = subst (λ x. OfNamed schema may text str_of (λ y. y) (judge_of schema may text str_of) x value meta fs) (sym (out_null value n)) e

  named_as : (value : InputValue S) (x : v.InputValue-F S (InputValue S)) (meta : MetaTypeOf S C) (fs : List Fault) → value ≡ roll-InputValue S x → (value ≡ variant.Null → ⊥)
      → OfMeta schema may text str_of (λ y. y) (judge_of schema may text str_of) x value meta fs → OfNamed schema may text str_of (λ y. y) (judge_of schema may text str_of) x value (Some meta) fs
  named_as value v.Null meta fs e n j = absurd (n (e ∙ variant.rolls-Null))
  named_as value (v.Scalar s) meta fs e n j = j
  named_as value (v.Enum s) meta fs e n j = j
  named_as value (v.Variable s) meta fs e n j = j
  named_as value (v.List s) meta fs e n j = j
  named_as value (v.Object s) meta fs e n j = j

  pub by_meta : (value : InputValue S) (o : Option (MetaTypeOf S C)) (meta : MetaTypeOf S C) (fs : List Fault) → (value ≡ variant.Null → ⊥) → o ≡ Some meta → ByMeta schema may text str_of value meta fs → ByName schema may text str_of value o fs
  by_meta value o meta fs n e j =
      subst (λ q. ByName schema may text str_of value q fs) (sym e) (named_as value (out-InputValue S value) meta fs (is_roll value (out-InputValue S value) refl) n j)

  -- a value that is no list
  no_items : (value : InputValue S) (x : v.InputValue-F S (InputValue S)) → value ≡ roll-InputValue S x → ((xs : Vec (Spanning (InputValue S) Span) Global) → value ≡ variant.List xs → ⊥) → items_layer x ≡ None
  no_items value v.Null e n = refl
  no_items value (v.Scalar s) e n = refl
  no_items value (v.Enum s) e n = refl
  no_items value (v.Variable s) e n = refl
  no_items value (v.Object s) e n = refl
  no_items value (v.List s) e n = absurd (n s (e ∙ variant.rolls-List s))

  pub no_list : (value : InputValue S) → ((xs : Vec (Spanning (InputValue S) Span) Global) → value ≡ variant.List xs → ⊥) → list_items value ≡ None
  no_list value n = no_items value (out-InputValue S value) (is_roll value (out-InputValue S value) refl) n

  -- the items of a list
  listed : (value : InputValue S) (xs : Vec (Spanning (InputValue S) Span) Global) → value ≡ variant.List xs → list_items value ≡ Some xs.items
  listed value xs e = ap list_items (e ∙ sym (variant.rolls-List xs)) ∙ ap items_layer (out-roll-InputValue S (v.List xs))

  pub says_list : (value : InputValue S) (xs : Vec (Spanning (InputValue S) Span) Global) (n : ℕ) (ys : List (Spanning (InputValue S) Span)) (t : TypeShape) (size : Option ℕ) (fs gs : List Fault) → value ≡ variant.List xs → n ≡ length xs.items → ys ≡ xs.items
      → fs ≡ wrong_length size n → OfItems schema may text str_of t ys gs → SaysItems schema may text str_of (list_items value) t size (fs ++ gs)
  says_list value xs n ys t size fs gs e len same f h =
      subst (λ o. SaysItems schema may text str_of o t size (fs ++ gs)) (sym (listed value xs e))
      (gs, subst (λ zs. OfItems schema may text str_of t zs gs) same h, ap (λ z. z ++ gs) (f ∙ ap (wrong_length size) len))
