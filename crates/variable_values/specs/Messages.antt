-- The errors for the faults of variables.
use Rattle.std.specs.Prelude.{◌≡◌, ℕ, Bool, true, false, List, [], ◌∷◌, ◌++◌, map, Option, Some, None, String, Vec}
use Rattle.std.specs.Prelude.{codes, option_and_then, string_bytes}
use Rattle.std.specs.BTreeMap.{BTreeMap, get_by_text}
use Rattle.std.specs.declared.alloc.Global.{Global}
use Rattle.std.specs.Fmt.{decimal}
use Rattle.std.specs.List.{flat_map}
use Rattle.language_types.specs.declared.position.SourcePosition.{SourcePosition}
use Rattle.language.specs.declared.tree.Operation.{Operation}
use Rattle.language.specs.declared.tree.VariableDefinition.{VariableDefinition}
use Rattle.language_values.specs.declared.value.InputValue.{InputValue, out-InputValue}
use Rattle.language_values.specs.declared.value.InputValue.TheOpen as v
use Rattle.language_types.specs.Types.{TypeShape, shape, printed, outermost, by_outermost}
use Rattle.meta.specs.Answers.{Answers}
use Rattle.schema.specs.Catalog.{Catalog}
use Rattle.events.specs.Node.{VariableEntry}
use Rattle.walk.specs.ErrorValue.{ErrorValue}
use Rattle.variable_values.specs.Dialects.{stands_in}
use Rattle.variable_values.specs.Faults.{Fault, Faults, Step, element, field}
use Rattle.variable_values.specs.InTurn.{InTurn}
use Rattle.variable_values.specs.Inputs.{definitions_of}

abbrev pub printed_step : Step → List ℕ
printed_step (element i) = codes "In element #" ++ (decimal i ++ codes ": ")
printed_step (field key) = codes "In field \"" ++ (key ++ codes "\": ")

abbrev pub printed_path : List Step → List ℕ
printed_path path = flat_map printed_step path

-- after what stands before its path
abbrev pub told_after : List ℕ → Fault → List ℕ
told_after before f = before ++ (printed_path f.path ++ f.text)

-- what is said of each fault of a variable's value
abbrev pub invalid_text : List ℕ → List ℕ
invalid_text name = codes "Variable \"$" ++ (name ++ codes "\" got invalid value. ")

-- what is said of a variable of this type that has no value, or null
abbrev pub required_text : List ℕ → TypeShape → List ℕ
required_text name t = codes "Variable \"$" ++ (name ++ (codes "\" of required type \"" ++ (printed t ++ codes "\" was not provided.")))

-- what is said of a variable without a value: nothing where its type may be null
abbrev pub messages_without : List ℕ → TypeShape → List (List ℕ)
messages_without name t = by_outermost (required_text name t ∷ []) [] [] (outermost t.modifiers)

abbrev pub error_at : SourcePosition → List ℕ → ErrorValue
error_at place message = record { locations = place ∷ []; message = message }

-- the bytes of each
abbrev pub texts_of : Vec (String Global) Global → List (List ℕ)
texts_of v = map string_bytes v.items

-- the faults of which P holds were reported, each after this text, behind what was there
abbrev pub Adds : (List Fault → Type 0) → List ℕ → List (List ℕ) → List (List ℕ) → Type 0
Adds P before old new = (fs : List Fault) × P fs × (new ≡ old ++ map (told_after before) fs)

-- a value of which one level is this, unless it is null
abbrev pub unless_null : {S : Type 0} → InputValue S → v.InputValue-F S (InputValue S) → Option (InputValue S)
unless_null value v.Null = None
unless_null value x = Some value

-- a value that is there and isn't null
abbrev pub given : {S : Type 0} → Option (InputValue S) → Option (InputValue S)
given {S} o = option_and_then (λ value. unless_null value (out-InputValue S value)) o

-- no message where it is so, and else those of which P holds
abbrev pub Unless : Bool → (List (List ℕ) → Type 0) → List (List ℕ) → Type 0
Unless true P messages = messages ≡ []
Unless false P messages = P messages

-- the values of variables, by their names
abbrev pub Values : Type 0 → Type 0
Values S = BTreeMap (String Global) (InputValue S)

module _ {S C : Type 0} (schema : Catalog S C) (may : Answers (InputValue S) C) (text : S → List ℕ) (str_of : S → Option (List ℕ)) where
  -- what is said of a variable by its value, if it has one that isn't null
  abbrev pub OfVariable : List ℕ → TypeShape → Option (InputValue S) → List (List ℕ) → Type 0
  OfVariable name t None messages = messages ≡ messages_without name t
  OfVariable name t (Some value) messages =
      (fs : List Fault) × Faults schema may text str_of value t fs
      × (messages ≡ map (told_after (invalid_text name)) fs)

  -- what is said of a variable by its definition and its value, if it has one: nothing where a default stands in
  abbrev pub OfDefined : List ℕ → VariableDefinition S → Option (InputValue S) → List (List ℕ) → Type 0
  OfDefined name d value messages = Unless (stands_in schema d value) (OfVariable name (shape d.var_type.item) (given value)) messages

  -- the errors of a definition, each at its name
  abbrev pub OfDefinition : Values S → VariableEntry S → List ErrorValue → Type 0
  OfDefinition values d es =
      (messages : List (List ℕ)) × OfDefined d.0.item.now d.1 (get_by_text values d.0.item.now) messages
      × (es ≡ map (error_at d.0.span.start) messages)

  -- the errors of an operation: those of each of its definitions
  abbrev pub OfOperation : Values S → Operation S → List ErrorValue → Type 0
  OfOperation values o es = InTurn (λ i d. OfDefinition values d) 0 (definitions_of o) es
