-- What the faults of a value say, each with its full stop. A type, a value and a key stand in it as they are printed.
use Rattle.std.specs.Prelude.{ℕ, List, ◌++◌, codes}
use Rattle.std.specs.Fmt.{decimal}

-- a null, or nothing, where the type is never null
abbrev pub null_text : List ℕ → List ℕ
null_text type = codes "Expected \"" ++ (type ++ codes "\", found null.")

-- a list of another length than the expected one
abbrev pub length_text : ℕ → ℕ → List ℕ
length_text expected found =
    codes "Expected list of " ++ (decimal expected
    ++ (codes " elements, found " ++ (decimal found ++ codes " elements.")))

-- what the check of a scalar refuses, and why
abbrev pub scalar_text : List ℕ → List ℕ → List ℕ → List ℕ
scalar_text name value why =
    codes "Expected input scalar `" ++ (name
    ++ (codes "`. Got: `" ++ (value ++ (codes "`. Details: " ++ (why ++ codes ".")))))

-- a list and an object that it accepts
abbrev pub list_text : List ℕ → List ℕ
list_text name = codes "Expected \"" ++ (name ++ codes "\", found list.")

abbrev pub object_text : List ℕ → List ℕ
object_text name = codes "Expected \"" ++ (name ++ codes "\", found object.")

-- the name of no value of the enum
abbrev pub enum_text : List ℕ → List ℕ
enum_text name = codes "Invalid value for enum \"" ++ (name ++ codes "\".")

-- no name at all
abbrev pub no_name_text : List ℕ → List ℕ
no_name_text name = codes "Expected \"" ++ (name ++ codes "\", found not a string or enum.")

abbrev pub no_object_text : List ℕ → List ℕ
no_object_text name = codes "Expected \"" ++ (name ++ codes "\", found not an object.")

-- under a key that no input field has
abbrev pub unknown_text : List ℕ
unknown_text = codes "Unknown field."

-- what the check of an input object refuses, and why
abbrev pub input_text : List ℕ → List ℕ → List ℕ → List ℕ
input_text name value why =
    codes "Expected input of type `" ++ (name
    ++ (codes "`. Got: `" ++ (value ++ (codes "`. Details: " ++ (why ++ codes ".")))))
