-- Default values that do not conform to their types (sections 3.6.1, 3.10 and 3.13).
use Rattle.std.specs.Prelude.{◌≡◌, ℕ, List, [], ◌∷◌, ◌++◌, Option, Some, None, Vec, codes, map, string_bytes}
use Rattle.std.specs.declared.alloc.Global.{Global}
use Rattle.language_values.specs.declared.value.InputValue.{InputValue}
use Rattle.meta.specs.Answers.{Answers}
use Rattle.schema.specs.Catalog.{Catalog}
use Rattle.literals.specs.Judged.{WrittenFault}
use Rattle.type_system_report.specs.Fault.{CoordinateValue, coordinate_value}
use Rattle.type_system_report.specs.Texts.{coordinate_text}
use Rattle.type_system_defaults.specs.declared.fault.DefaultFault.{DefaultFault}
use Rattle.type_system_defaults.specs.Given.{Given}

-- Where a default value has a fault, and its text.
pub record DefaultFaultValue : Type 0 where
  pub coordinate : CoordinateValue
  pub reason : List ℕ

abbrev pub default_fault : DefaultFault → DefaultFaultValue
default_fault f = record { coordinate = coordinate_value f.coordinate; reason = string_bytes f.reason }

abbrev pub reported : Vec DefaultFault Global → List DefaultFaultValue
reported v = map default_fault v.items

-- the bytes that it prints
abbrev pub default_fault_text : DefaultFaultValue → List ℕ
default_fault_text f = codes "Invalid default value of " ++ (coordinate_text f.coordinate ++ (codes ", reason: " ++ f.reason))

-- the fault of a value at this coordinate, if it has one
abbrev pub fault_at : CoordinateValue → Option (List ℕ) → List DefaultFaultValue
fault_at at None = []
fault_at at (Some reason) = record { coordinate = at; reason = reason } ∷ []

module _ {S C : Type 0} (schema : Catalog S C) (may : Answers (InputValue S) C) (shown : InputValue S → List ℕ) where
  -- the fault of a default value against its type, if it has one
  abbrev pub IsFaultOf : Given S → List DefaultFaultValue → Type 0
  IsFaultOf d fs = (fault : Option (List ℕ)) × WrittenFault schema may shown d.value d.expected fault × (fs ≡ fault_at d.coordinate fault)

  -- the faults of default values, in their order
  abbrev pub AreFaults : List (Given S) → List DefaultFaultValue → Type 0
  AreFaults [] fs = fs ≡ []
  AreFaults (d ∷ ds) fs =
      (first : List DefaultFaultValue) × (rest : List DefaultFaultValue) × IsFaultOf d first × AreFaults ds rest
      × (fs ≡ first ++ rest)

  -- the fault of a default value comes after those that were found before
  abbrev pub AddsFaults : Given S → List DefaultFaultValue → List DefaultFaultValue → Type 0
  AddsFaults d before after = (fs : List DefaultFaultValue) × IsFaultOf d fs × (after ≡ before ++ fs)
