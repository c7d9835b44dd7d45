-- Default values of variables that do not conform to the variable's type (section 5.6.1).
use Rattle.std.specs.Prelude.{◌≡◌, ℕ, List, [], Option, Some, None}
use Rattle.language_values.specs.declared.value.InputValue.{InputValue}
use Rattle.language_types.specs.Types.{TypeShape, printed, shape}
use Rattle.meta.specs.Answers.{Answers}
use Rattle.schema.specs.Catalog.{Catalog}
use Rattle.events.specs.Node.{Node, Placed, variable_definition}
use Rattle.events.specs.Occurrence.{Occurrence}
use Rattle.walk.specs.ContextState.{DocumentScope}
use Rattle.walk.specs.ErrorValue.{ErrorValue}
use Rattle.rules_values.specs.Conforms.{ConformsTo}
use Rattle.rules_values.specs.DefaultValuesOfCorrectType.{wrong_default_message}
use Rattle.rules_values.specs.Faults.{reported}

module _ {S C : Type 0} (may : Answers (InputValue S) C) (shown : InputValue S → List ℕ) where
  -- what is reported of a variable's default value; a variable without one has no fault
  abbrev pub faulty_if_there : Catalog S C → List ℕ → TypeShape → Option (Placed (InputValue S)) → List ErrorValue → Type 0
  faulty_if_there schema name t None es = es ≡ []
  faulty_if_there schema name t (Some value) es = reported may shown schema (wrong_default_message name (printed t)) (Some t) value es

  -- at a node: a definition of a variable, by its type
  abbrev pub faulty_default : Catalog S C → Node S → List ErrorValue → Type 0
  faulty_default schema (variable_definition d) es = faulty_if_there schema d.0.item.now (shape d.1.var_type.item) d.1.default_value es
  faulty_default schema _ es = es ≡ []

  -- at the definition of a variable: its default value has a fault
  abbrev pub faulty_defaults : DocumentScope S C → Occurrence S C → List ErrorValue → Type 0
  faulty_defaults scope o es = faulty_default scope.schema o.node es

module _ {S C : Type 0} (may : Answers (InputValue S) C) where
  abbrev pub ConformsIfThere : Catalog S C → TypeShape → Option (Placed (InputValue S)) → Type 0
  ConformsIfThere schema t None = Unit {0}
  ConformsIfThere schema t (Some value) = ConformsTo schema may t value.item

  -- at a node: the default value of a variable, if there is one, conforms to its type
  abbrev pub ConformingDefault : Catalog S C → Node S → Type 0
  ConformingDefault schema (variable_definition d) = ConformsIfThere schema (shape d.1.var_type.item) d.1.default_value
  ConformingDefault schema _ = Unit {0}
