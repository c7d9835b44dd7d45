-- Equality of values with their positions and the order of their keys.
use Rattle.std.specs.Prelude.{string_bytes, Bool, true, false, ◌&&◌, nat_eq}
use Rattle.std.specs.Cmp.Lexicographic.{pointwise}
use Rattle.language_types.specs.contracts.position.SpanPartialEq.TheImpl as span
use Rattle.language_types.specs.declared.position.Span.{Span}
use Rattle.language_types.specs.declared.position.Spanning.{Spanning}
use Rattle.language_values.specs.declared.value.InputValue.{InputValue, fold-InputValue, out-InputValue}
use Rattle.language_values.specs.declared.value.InputValue.TheOpen as open_value
use Rattle.language_values.specs.declared.value_same.Matching.{Matching}
use Rattle.language_values.specs.declared.value_same.Matching.TheVariants as m
use Rattle.language_values.specs.Values.{Entry}

-- two spans are equal
unfoldable pub same_span : Span → Span → Bool
same_span = span.eq-value.it

-- two items at one place pass
abbrev pub same_item : {A B : Type 0} → (A → B → Bool) → Spanning A Span → Spanning B Span → Bool
same_item test x y = same_span x.span y.span && test x.item y.item

-- two entries have one key, at one place, and their values are at one place
abbrev pub same_place : {A B : Type 0} → Entry A → Entry B → Bool
same_place x y = pointwise nat_eq (string_bytes x.0.item) (string_bytes y.0.item)
    && (same_span x.0.span y.0.span && same_span x.1.span y.1.span)

abbrev pub same_entry : {A B : Type 0} → (A → B → Bool) → Entry A → Entry B → Bool
same_entry test x y = same_place x y && test x.1.item y.1.item

-- the test on the left, at the value on the right
abbrev pub applied : {A : Type 0} → (A → Bool) → A → Bool
applied test x = test x

-- One level on each side, with the test of each value inside in its place on the left.
abbrev pub same_layer : {S A : Type 0} → (S → S → Bool) → open_value.InputValue-F S (A → Bool) → open_value.InputValue-F S A → Bool
same_layer E open_value.Null open_value.Null = true
same_layer E (open_value.Scalar a) (open_value.Scalar b) = E a b
same_layer E (open_value.Enum a) (open_value.Enum b) = pointwise nat_eq (string_bytes a) (string_bytes b)
same_layer E (open_value.Variable a) (open_value.Variable b) = pointwise nat_eq (string_bytes a) (string_bytes b)
same_layer E (open_value.List xs) (open_value.List ys) = pointwise (same_item applied) xs.items ys.items
same_layer E (open_value.Object xs) (open_value.Object ys) = pointwise (same_entry applied) xs.items ys.items
same_layer E _ _ = false

abbrev pub same_step : {S : Type 0} → (S → S → Bool) → open_value.InputValue-F S (InputValue S → Bool) → InputValue S → Bool
same_step {S} E v = λ w. same_layer E v (out-InputValue S w)

-- Whether two values are equal, where E compares scalars. By cases:
--   null and null                  true
--   two scalars a, b               E a b
--   two enum values, two variables whether the names are the same
--   two lists, two objects         whether they have the same length, and at each index one key, the same spans and equal values
--   any other two                  false
abbrev pub same_value : {S : Type 0} → (S → S → Bool) → InputValue S → InputValue S → Bool
same_value {S} E = fold-InputValue S (InputValue S → Bool) (same_step E)

-- what two values, or two lists of values, that are compared in order come to
abbrev pub is_match : {S : Type 0} → (S → S → Bool) → Matching S → Bool
is_match E (m.Answer b) = b
is_match E (m.Items l r) = pointwise (same_item (same_value E)) l.now r.now
is_match E (m.Entries l r) = pointwise (same_entry (same_value E)) l.now r.now
