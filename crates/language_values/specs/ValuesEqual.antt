-- Equality of values without their positions (sections 2.9 and 5.6.3).
use Rattle.std.specs.Prelude.{ℕ, List, [], ◌∷◌, length, map, string_bytes, Bool, true, false, not, ◌&&◌, nat_eq}
use Rattle.std.specs.List.{list_any, list_all}
use Rattle.std.specs.Cmp.Lexicographic.{pointwise}
use Rattle.language_values.specs.declared.value.InputValue.{InputValue, fold-InputValue, out-InputValue}
use Rattle.language_values.specs.declared.value.InputValue.TheOpen as open_value
use Rattle.language_values.specs.Values.{Entry}

-- some entry has this key and a value that passes
abbrev pub entry_in : {A : Type 0} → (A → Bool) → List ℕ → List (Entry A) → Bool
entry_in test key es = list_any (λ e. pointwise nat_eq (string_bytes e.0.item) key && test e.1.item) es

-- One level on each side, with the test of each value inside in its place on the left.
abbrev pub eq_layer : {S A : Type 0} → (S → S → Bool) → open_value.InputValue-F S (A → Bool) → open_value.InputValue-F S A → Bool
eq_layer E open_value.Null open_value.Null = true
eq_layer E (open_value.Scalar a) (open_value.Scalar b) = E a b
eq_layer E (open_value.Enum a) (open_value.Enum b) = pointwise nat_eq (string_bytes a) (string_bytes b)
eq_layer E (open_value.Variable a) (open_value.Variable b) = pointwise nat_eq (string_bytes a) (string_bytes b)
eq_layer E (open_value.List xs) (open_value.List ys) = pointwise (λ x y. x.item y.item) xs.items ys.items
eq_layer E (open_value.Object xs) (open_value.Object ys) =
    nat_eq (length xs.items) (length ys.items)
    && list_all (λ x. entry_in x.1.item (string_bytes x.0.item) ys.items) xs.items
eq_layer E _ _ = false

-- one level of the value on the left against the value on the right
abbrev pub eq_step : {S : Type 0} → (S → S → Bool) → open_value.InputValue-F S (InputValue S → Bool) → InputValue S → Bool
eq_step {S} E v = λ w. eq_layer E v (out-InputValue S w)

-- Whether two values are equal without their positions, where E compares scalars. By cases:
--   null and null                  true
--   two scalars a, b               E a b
--   two enum values, two variables whether the names are the same
--   two lists xs, ys               whether they have the same length, and at each index x equals y
--   two objects xs, ys             whether they have the same length, and each entry of xs has one in ys with its key and an equal value
--   any other two                  false
abbrev pub unlocated_eq : {S : Type 0} → (S → S → Bool) → InputValue S → InputValue S → Bool
unlocated_eq {S} E = fold-InputValue S (InputValue S → Bool) (eq_step E)

-- no two of the texts are the same
abbrev pub are_distinct : List (List ℕ) → Bool
are_distinct [] = true
are_distinct (t ∷ ts) = not (list_any (pointwise nat_eq t) ts) && are_distinct ts

-- One level, with the result for each value inside in place of the value.
abbrev pub unique_step : {S : Type 0} → open_value.InputValue-F S Bool → Bool
unique_step open_value.Null = true
unique_step (open_value.Scalar s) = true
unique_step (open_value.Enum e) = true
unique_step (open_value.Variable v) = true
unique_step (open_value.List vs) = list_all (λ v. v.item) vs.items
unique_step (open_value.Object es) = are_distinct (map (λ e. string_bytes e.0.item) es.items) && list_all (λ e. e.1.item) es.items

-- No object in it, at any depth, has two entries of one key. By cases:
--   a list      each item is such a value
--   an object   its keys are distinct, and each entry's value is such a value
--   any other   true
abbrev pub has_unique_keys : {S : Type 0} → InputValue S → Bool
has_unique_keys {S} = fold-InputValue S Bool unique_step
