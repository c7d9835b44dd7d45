-- What a value holds (sections 2.9 and 2.10).
use Rattle.std.specs.Prelude.{◌≡◌, ⊤, ℕ, List, [], ◌∷◌, reverse, find, Option, Some, None, option_map, option_copied}
use Rattle.std.specs.Prelude.{String, string_bytes, Bool, true, false}
use Rattle.std.specs.BTreeMap.{BTreeMap, get_by}
use Rattle.std.specs.Cmp.Lexicographic.{slice_cmp}
use Rattle.std.specs.Ordering.{nat_cmp}
use Rattle.std.specs.Str.{bytes_eq}
use Rattle.std.specs.declared.alloc.Global.{Global}
use Rattle.std.specs.List.{flat_map, list_all}
use denote.Ref.{Bor}
use Rattle.language_types.specs.declared.position.Span.{Span}
use Rattle.language_types.specs.declared.position.Spanning.{Spanning}
use Rattle.language_values.specs.declared.value.InputValue.{InputValue, fold-InputValue, out-InputValue}
use Rattle.language_values.specs.declared.value.InputValue.TheOpen.{InputValue-F}

-- a key and its value, each with its span
abbrev pub Entry : Type 0 → Type 0
Entry A = Spanning (String Global) Span × Spanning A Span

-- the items of a list
abbrev pub items_layer : {S A : Type 0} → InputValue-F S A → Option (List (Spanning A Span))
items_layer InputValue-F.Null = None
items_layer (InputValue-F.Scalar s) = None
items_layer (InputValue-F.Enum e) = None
items_layer (InputValue-F.Variable v) = None
items_layer (InputValue-F.List vs) = Some vs.items
items_layer (InputValue-F.Object es) = None

abbrev pub list_items : {S : Type 0} → InputValue S → Option (List (Spanning (InputValue S) Span))
list_items {S} v = items_layer (out-InputValue S v)

-- the entries of an object
abbrev pub entries_layer : {S A : Type 0} → InputValue-F S A → Option (List (Entry A))
entries_layer InputValue-F.Null = None
entries_layer (InputValue-F.Scalar s) = None
entries_layer (InputValue-F.Enum e) = None
entries_layer (InputValue-F.Variable v) = None
entries_layer (InputValue-F.List vs) = None
entries_layer (InputValue-F.Object es) = Some es.items

abbrev pub object_entries : {S : Type 0} → InputValue S → Option (List (Entry (InputValue S)))
object_entries {S} v = entries_layer (out-InputValue S v)

-- the value of the last entry of this key
abbrev pub last_value : {A : Type 0} → List ℕ → List (Entry A) → Option A
last_value key es = option_map (λ e. e.1.item) (find (λ e. bytes_eq (string_bytes e.0.item) key) (reverse es))

-- the map has the value of the last entry of each key, and nothing else
abbrev pub IsMapOf : {A : Type 0} → BTreeMap (Bor (List ℕ)) (Bor A) → List (Entry A) → Type 0
IsMapOf m es = (key : List ℕ) → option_copied (get_by (λ k. slice_cmp nat_cmp key k.now) m) ≡ last_value key es

-- a map for an object, and no map for any other value
abbrev pub IsMapOfObject : {A : Type 0} → Option (BTreeMap (Bor (List ℕ)) (Bor A)) → Option (List (Entry A)) → Type 0
IsMapOfObject (Some m) (Some es) = IsMapOf m es
IsMapOfObject (Some m) None = ⊥
IsMapOfObject None (Some es) = ⊥
IsMapOfObject None None = ⊤

-- One level, with the variables of each value inside in its place.
abbrev pub variables_step : {S : Type 0} → InputValue-F S (List (List ℕ)) → List (List ℕ)
variables_step InputValue-F.Null = []
variables_step (InputValue-F.Scalar s) = []
variables_step (InputValue-F.Enum e) = []
variables_step (InputValue-F.Variable v) = string_bytes v ∷ []
variables_step (InputValue-F.List vs) = flat_map (λ v. v.item) vs.items
variables_step (InputValue-F.Object es) = flat_map (λ e. e.1.item) es.items

-- The names of the variables of a value, at any depth, in order, with repeats. By cases:
--   null, a scalar, an enum value   []
--   a variable                      its name alone
--   a list                          those of each item, one after the other
--   an object                       those of each entry's value, one after the other
abbrev pub variables_of : {S : Type 0} → InputValue S → List (List ℕ)
variables_of {S} = fold-InputValue S (List (List ℕ)) variables_step

-- those of a list's items
abbrev pub variables_of_all : {S : Type 0} → List (Spanning (InputValue S) Span) → List (List ℕ)
variables_of_all vs = flat_map (λ v. variables_of v.item) vs

-- those of an object's entries
abbrev pub variables_of_object : {S : Type 0} → List (Entry (InputValue S)) → List (List ℕ)
variables_of_object es = flat_map (λ e. variables_of e.1.item) es

-- a layer of null, a scalar or an enum value
abbrev pub plain_layer : {S A : Type 0} → InputValue-F S A → Bool
plain_layer InputValue-F.Null = true
plain_layer (InputValue-F.Scalar s) = true
plain_layer (InputValue-F.Enum e) = true
plain_layer (InputValue-F.Variable v) = false
plain_layer (InputValue-F.List vs) = false
plain_layer (InputValue-F.Object es) = false

-- null, a scalar or an enum value
abbrev pub is_plain : {S : Type 0} → InputValue S → Bool
is_plain {S} v = plain_layer (out-InputValue S v)

abbrev pub flat_layer : {S : Type 0} → InputValue-F S (InputValue S) → Bool
flat_layer InputValue-F.Null = true
flat_layer (InputValue-F.Scalar s) = true
flat_layer (InputValue-F.Enum e) = true
flat_layer (InputValue-F.Variable v) = false
flat_layer (InputValue-F.List vs) = list_all (λ v. is_plain v.item) vs.items
flat_layer (InputValue-F.Object es) = list_all (λ e. is_plain e.1.item) es.items

-- such a value, or a list or an object of such values
abbrev pub is_flat_constant : {S : Type 0} → InputValue S → Bool
is_flat_constant {S} v = flat_layer (out-InputValue S v)
