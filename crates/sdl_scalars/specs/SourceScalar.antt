-- What a `SourceScalar` prints, its text and its truth.
use Rattle.std.specs.Prelude.{◌≡◌, ℕ, List, Bool, Option, Some, None, string_bytes}
use Rattle.language_values.specs.Scalar.{truth_text}
use Rattle.sdl_scalars.specs.declared.scalar.SourceScalar.{SourceScalar}
use Rattle.sdl_scalars.specs.declared.scalar.SourceScalar.TheVariants.{Int, Float, String, Boolean}

-- the bytes that a scalar prints
abbrev pub source_text : SourceScalar → List ℕ
source_text (Int s) = string_bytes s
source_text (Float s) = string_bytes s
source_text (String s) = string_bytes s
source_text (Boolean b) = truth_text b

-- its text, if it is a string
abbrev pub source_str : SourceScalar → Option (List ℕ)
source_str (Int s) = None
source_str (Float s) = None
source_str (String s) = Some (string_bytes s)
source_str (Boolean b) = None

-- its value, if it is a Boolean
abbrev pub source_bool : SourceScalar → Option Bool
source_bool (Int s) = None
source_bool (Float s) = None
source_bool (String s) = None
source_bool (Boolean b) = Some b

-- a Boolean prints `true` or `false`
pub source_prints_bool : (x : SourceScalar) (b : Bool) → source_bool x ≡ Some b → source_text x ≡ truth_text b
source_prints_bool (Int s) b e = cc
source_prints_bool (Float s) b e = cc
source_prints_bool (String s) b e = cc
source_prints_bool (Boolean c) b e = cc

-- both are the same number as written, the same text or the same Boolean
abbrev pub IsSameSource : SourceScalar → SourceScalar → Type 0
IsSameSource (Int s) (Int t) = string_bytes s ≡ string_bytes t
IsSameSource (Float s) (Float t) = string_bytes s ≡ string_bytes t
IsSameSource (String s) (String t) = string_bytes s ≡ string_bytes t
IsSameSource (Boolean a) (Boolean b) = a ≡ b
IsSameSource _ _ = ⊥
