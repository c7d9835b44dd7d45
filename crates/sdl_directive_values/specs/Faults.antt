-- Values of arguments of directives that do not conform to their types (sections 3.13 and 5.6.1).
use Rattle.std.specs.Prelude.{◌≡◌, ℕ, List, [], ◌∷◌, ◌++◌, Option, Some, None, codes, map, string_bytes}
use Rattle.language_types.specs.declared.position.SourcePosition.{SourcePosition}
use Rattle.language_values.specs.declared.value.InputValue.{InputValue}
use Rattle.meta.specs.Answers.{Answers}
use Rattle.schema.specs.Catalog.{Catalog}
use Rattle.literals.specs.Judged.{WrittenFault}
use Rattle.sdl_scalars.specs.declared.check.SourceCheck.{SourceCheck}
use Rattle.sdl_scalars.specs.declared.scalar.SourceScalar.{SourceScalar}
use Rattle.sdl_directive_values.specs.declared.fault.ValueFault.{ValueFault}
use Rattle.sdl_directive_values.specs.Given.{GivenAt}

-- the argument of a value that has a fault, where the value starts, and the fault's text
pub record ValueFaultAt : Type 0 where
  pub name : List ℕ
  pub position : SourcePosition
  pub reason : List ℕ

abbrev pub value_fault : ValueFault → ValueFaultAt
value_fault f = record { name = f.name.now; position = f.position; reason = string_bytes f.reason }

abbrev pub reported : List ValueFault → List ValueFaultAt
reported = map value_fault

-- the bytes that it prints, as the rule on values in documents has them
abbrev pub value_fault_text : ValueFaultAt → List ℕ
value_fault_text f = codes "Invalid value for argument \"" ++ (f.name ++ (codes "\", reason: " ++ f.reason))

-- the fault of a value, if it has one
abbrev pub fault_at : GivenAt → Option (List ℕ) → List ValueFaultAt
fault_at d None = []
fault_at d (Some reason) = record { name = d.name; position = d.position; reason = reason } ∷ []

module _ (schema : Catalog SourceScalar SourceCheck) (may : Answers (InputValue SourceScalar) SourceCheck)
    (shown : InputValue SourceScalar → List ℕ) where
  -- the fault of a value against its type, if it has one
  abbrev pub IsFaultOf : GivenAt → List ValueFaultAt → Type 0
  IsFaultOf d fs = (fault : Option (List ℕ)) × WrittenFault schema may shown d.value d.expected fault × (fs ≡ fault_at d fault)

  -- the faults of values, in their order
  abbrev pub AreFaults : List GivenAt → List ValueFaultAt → Type 0
  AreFaults [] fs = fs ≡ []
  AreFaults (d ∷ ds) fs =
      (first : List ValueFaultAt) × (rest : List ValueFaultAt) × IsFaultOf d first × AreFaults ds rest
      × (fs ≡ first ++ rest)

  -- the fault of a value comes after those that were found before
  abbrev pub AddsFaults : GivenAt → List ValueFaultAt → List ValueFaultAt → Type 0
  AddsFaults d before after = (fs : List ValueFaultAt) × IsFaultOf d fs × (after ≡ before ++ fs)
