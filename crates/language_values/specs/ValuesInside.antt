-- How many values a value holds, with itself.
use Rattle.std.specs.Prelude.{◌≡◌, ⊤, ℕ, ◌+◌, []}
use Rattle.std.specs.List.{sum_by}
use Rattle.language_values.specs.declared.value.InputValue.{InputValue, fold-InputValue, out-InputValue}
use Rattle.language_values.specs.declared.value.InputValue.TheOpen.{InputValue-F}

-- one, and those inside
abbrev pub inside_step : {S : Type 0} → InputValue-F S ℕ → ℕ
inside_step InputValue-F.Null = 1
inside_step (InputValue-F.Scalar s) = 1
inside_step (InputValue-F.Enum e) = 1
inside_step (InputValue-F.Variable v) = 1
inside_step (InputValue-F.List vs) = 1 + sum_by (λ v. v.item) vs.items
inside_step (InputValue-F.Object es) = 1 + sum_by (λ e. e.1.item) es.items

-- those of a value, at any depth
abbrev pub values_inside : {S : Type 0} → InputValue S → ℕ
values_inside {S} = fold-InputValue S ℕ inside_step

-- whether a layer holds none
abbrev pub bare_layer : {S A : Type 0} → InputValue-F S A → Type 0
bare_layer InputValue-F.Null = ⊤
bare_layer (InputValue-F.Scalar s) = ⊤
bare_layer (InputValue-F.Enum e) = ⊤
bare_layer (InputValue-F.Variable v) = ⊤
bare_layer (InputValue-F.List vs) = vs.items ≡ []
bare_layer (InputValue-F.Object es) = es.items ≡ []

-- the value holds no other
abbrev pub IsBare : {S : Type 0} → InputValue S → Type 0
IsBare {S} v = bare_layer (out-InputValue S v)
