-- Which values the checks accept.
use Rattle.std.specs.Prelude.{◌≡◌, ⊤, ℕ, List, [], Bool, true, Some, Float, Result, Ok, Err, string_bytes, codes}
use Rattle.std.specs.Prelude.{FitsSigned, String}
use Rattle.std.specs.declared.alloc.Global.{Global}
use Rattle.std.specs.List.{list_any}
use Rattle.std.specs.Str.{bytes_eq}
use Rattle.std.specs.Int.{w32}
use Rattle.std.specs.Float.{float_is_finite, binary64}
use Rattle.std.specs.Float.Parse.{parse_float}
use Rattle.std.specs.Str.Parse.{IsNumeral, without_leading_sign, signed_digits_value}
use Rattle.language_types.specs.declared.error.CheckError.{CheckError}
use Rattle.language_types.specs.declared.error.CheckError.TheVariants as e
use Rattle.language_values.specs.declared.value.InputValue.{InputValue, out-InputValue}
use Rattle.language_values.specs.declared.value.InputValue.TheOpen as o
use Rattle.sdl_scalars.specs.declared.scalar.SourceScalar.{SourceScalar}
use Rattle.sdl_scalars.specs.declared.scalar.SourceScalar.TheVariants as s
use Rattle.sdl_scalars.specs.declared.check.SourceCheck.{SourceCheck}
use Rattle.sdl_scalars.specs.declared.check.SourceCheck.TheVariants as c

-- the text of an integer of 32 bits
abbrev pub IsInteger : List ℕ → Type 0
IsInteger bs = IsNumeral 10 (without_leading_sign bs) × FitsSigned w32 (signed_digits_value 10 bs)

-- the text of a number that rounds to a finite double
abbrev pub IsFinite : List ℕ → Type 0
IsFinite bs = (x : Float) × (parse_float binary64 bs ≡ Some x) × (float_is_finite x ≡ true)

abbrev pub AcceptsScalar : SourceCheck → SourceScalar → Type 0
AcceptsScalar c.Int (s.Int n) = IsInteger (string_bytes n)
AcceptsScalar c.Float (s.Int n) = IsFinite (string_bytes n)
AcceptsScalar c.Float (s.Float x) = IsFinite (string_bytes x)
AcceptsScalar c.String (s.String t) = ⊤
AcceptsScalar c.Boolean (s.Boolean b) = ⊤
AcceptsScalar c.Id (s.String t) = ⊤
AcceptsScalar c.Id (s.Int n) = ⊤
AcceptsScalar _ _ = ⊥

-- one of the names is this one
abbrev pub HasName : List (String Global) → List ℕ → Type 0
HasName names name = list_any (λ n. bytes_eq (string_bytes n) name) names ≡ true

abbrev pub Layer : Type 0
Layer = o.InputValue-F SourceScalar (InputValue SourceScalar)

abbrev pub AcceptsLayer : SourceCheck → Layer → Type 0
AcceptsLayer c.Any v = ⊤
AcceptsLayer (c.Enum names) (o.Enum name) = HasName names.items (string_bytes name)
AcceptsLayer c.Object (o.Object entries) = ⊤
AcceptsLayer check (o.Scalar x) = AcceptsScalar check x
AcceptsLayer _ _ = ⊥

-- By section 3.5: an integer of 32 bits; a finite double; a string; a Boolean; a string or an integer of any size.
-- An enum has its values. An input object accepts every object, and a custom scalar every value.
abbrev pub Accepts : SourceCheck → InputValue SourceScalar → Type 0
Accepts check v = AcceptsLayer check (out-InputValue SourceScalar v)

-- why the check refuses a value
abbrev pub refusal : SourceCheck → List ℕ
refusal c.Int = codes "not an integer of 32 bits"
refusal c.Float = codes "not a finite number"
refusal c.String = codes "not a string"
refusal c.Boolean = codes "not a truth value"
refusal c.Id = codes "not a string or an integer"
refusal (c.Enum names) = codes "not a value of the enum"
refusal c.Object = codes "not an object"
refusal c.Any = []

-- It accepts these values and refuses all others with that text, or runs out of memory for the text.
abbrev pub MayAnswer : SourceCheck → InputValue SourceScalar → Result (Unit {0}) CheckError → Type 0
MayAnswer check v (Ok x) = Accepts check v
MayAnswer check v (Err (e.Refused m)) = (Accepts check v → ⊥) × (string_bytes m ≡ refusal check)
MayAnswer check v (Err e.OutOfMemory) = Accepts check v → ⊥
