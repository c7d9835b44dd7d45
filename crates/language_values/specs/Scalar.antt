-- What a `DefaultScalarValue` prints, its text (section 2.9.4) and its truth (section 2.9.3).
use Rattle.std.specs.Prelude.{◌≡◌, ℕ, List, Bool, true, false, Option, Some, None, codes, string_bytes, if◌then◌else◌}
use Rattle.std.specs.Fmt.{signed_decimal}
use Rattle.language_values.specs.declared.value.DefaultScalarValue.{DefaultScalarValue}
use Rattle.language_values.specs.declared.value.DefaultScalarValue.TheVariants.{Int, String, Boolean}

-- how a Boolean is written
abbrev pub truth_text : Bool → List ℕ
truth_text b = if b then codes "true" else codes "false"

-- the bytes that a scalar prints
abbrev pub default_text : DefaultScalarValue → List ℕ
default_text (Int n) = signed_decimal n
default_text (String s) = string_bytes s
default_text (Boolean b) = truth_text b

-- its text, if it is a string
abbrev pub default_str : DefaultScalarValue → Option (List ℕ)
default_str (Int n) = None
default_str (String s) = Some (string_bytes s)
default_str (Boolean b) = None

-- its value, if it is a Boolean
abbrev pub default_bool : DefaultScalarValue → Option Bool
default_bool (Int n) = None
default_bool (String s) = None
default_bool (Boolean b) = Some b

-- a Boolean prints `true` or `false`
pub default_prints_bool : (x : DefaultScalarValue) (b : Bool) → default_bool x ≡ Some b → default_text x ≡ truth_text b
default_prints_bool (Int n) b e = cc
default_prints_bool (String s) b e = cc
default_prints_bool (Boolean c) b e = cc

-- both are the same integer, Boolean or text
abbrev pub IsSameScalar : DefaultScalarValue → DefaultScalarValue → Type 0
IsSameScalar (Int m) (Int n) = m ≡ n
IsSameScalar (String s) (String t) = string_bytes s ≡ string_bytes t
IsSameScalar (Boolean a) (Boolean b) = a ≡ b
IsSameScalar _ _ = ⊥
