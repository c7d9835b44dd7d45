-- What the checks of the sample schemas accept.
use Rattle.std.specs.Prelude.{ℕ, List, Bool, true, false, ◌||◌, codes, string_bytes}
use Rattle.std.specs.Cmp.Lexicographic.{pointwise}
use Rattle.std.specs.Prelude.{◌==◌}
use Rattle.language_values.specs.declared.value.DefaultScalarValue.{DefaultScalarValue}
use Rattle.language_values.specs.declared.value.DefaultScalarValue.TheVariants as d
use Rattle.language_values.specs.declared.value.InputValue.{InputValue, out-InputValue}
use Rattle.language_values.specs.declared.value.InputValue.TheOpen as o

abbrev pub Layer : Type 0
Layer = o.InputValue-F DefaultScalarValue (InputValue DefaultScalarValue)

abbrev pub scalar_layer : (DefaultScalarValue → Bool) → Layer → Bool
scalar_layer accepts (o.Scalar s) = accepts s
scalar_layer accepts _ = false

-- a scalar that is accepted
abbrev pub is_scalar_that : (DefaultScalarValue → Bool) → InputValue DefaultScalarValue → Bool
is_scalar_that accepts v = scalar_layer accepts (out-InputValue DefaultScalarValue v)

abbrev pub is_int_scalar : DefaultScalarValue → Bool
is_int_scalar (d.Int n) = true
is_int_scalar (d.String s) = false
is_int_scalar (d.Boolean b) = false

abbrev pub is_string_scalar : DefaultScalarValue → Bool
is_string_scalar (d.Int n) = false
is_string_scalar (d.String s) = true
is_string_scalar (d.Boolean b) = false

abbrev pub is_boolean_scalar : DefaultScalarValue → Bool
is_boolean_scalar (d.Int n) = false
is_boolean_scalar (d.String s) = false
is_boolean_scalar (d.Boolean b) = true

abbrev pub is_id_scalar : DefaultScalarValue → Bool
is_id_scalar (d.Int n) = true
is_id_scalar (d.String s) = true
is_id_scalar (d.Boolean b) = false

-- an integer
abbrev pub is_int : InputValue DefaultScalarValue → Bool
is_int v = is_scalar_that is_int_scalar v

-- a string
abbrev pub is_string : InputValue DefaultScalarValue → Bool
is_string v = is_scalar_that is_string_scalar v

-- a Boolean
abbrev pub is_boolean : InputValue DefaultScalarValue → Bool
is_boolean v = is_scalar_that is_boolean_scalar v

-- a string or an integer
abbrev pub is_id : InputValue DefaultScalarValue → Bool
is_id v = is_scalar_that is_id_scalar v

abbrev pub is_text : List ℕ → List ℕ → Bool
is_text word text = pointwise (λ a b. a == b) text word

abbrev pub is_command : List ℕ → Bool
is_command name = (is_text (codes "SIT") name || is_text (codes "HEEL") name) || is_text (codes "DOWN") name

abbrev pub command_layer : Layer → Bool
command_layer (o.Enum name) = is_command (string_bytes name)
command_layer _ = false

-- one of the enum values SIT, HEEL and DOWN
abbrev pub is_dog_command : InputValue DefaultScalarValue → Bool
is_dog_command v = command_layer (out-InputValue DefaultScalarValue v)

abbrev pub object_layer : Layer → Bool
object_layer (o.Object entries) = true
object_layer _ = false

-- an object
abbrev pub is_object : InputValue DefaultScalarValue → Bool
is_object v = object_layer (out-InputValue DefaultScalarValue v)
