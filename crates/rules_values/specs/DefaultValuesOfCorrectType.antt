-- Default values of variables that are never used, or do not conform to the variable's type (section 5.6.1).
use Rattle.std.specs.Prelude.{◌≡◌, ℕ, List, [], ◌++◌, Bool, true, false, Option, Some, None, codes}
use Rattle.language_values.specs.declared.value.InputValue.{InputValue}
use Rattle.language_types.specs.Types.{TypeShape, is_never_null, shape, printed}
use Rattle.meta.specs.Answers.{Answers}
use Rattle.schema.specs.Catalog.{Catalog}
use Rattle.events.specs.Node.{Node, Placed, variable_definition}
use Rattle.events.specs.Occurrence.{Occurrence}
use Rattle.walk.specs.ContextState.{DocumentScope}
use Rattle.walk.specs.ErrorValue.{ErrorValue}
use Rattle.rules_values.specs.Conforms.{ConformsTo}
use Rattle.rules_values.specs.Faults.{error_at, reported}

abbrev pub needless_default_message : List ℕ → List ℕ → List ℕ
needless_default_message name t =
    codes "Argument \"" ++ (name ++ (codes "\" has type \"" ++ (t ++ codes "\" and is not nullable, so it can't have a default value")))

abbrev pub wrong_default_message : List ℕ → List ℕ → List ℕ → List ℕ
wrong_default_message name t fault =
    codes "Invalid default value for argument \"" ++ (name ++ (codes "\", expected type \"" ++ (t ++ (codes "\", reason: " ++ fault))))

module _ {S C : Type 0} (may : Answers (InputValue S) C) (shown : InputValue S → List ℕ) where
  -- the default value of a variable of this name and type, by whether the type is never null
  abbrev pub default_of : Bool → Catalog S C → List ℕ → TypeShape → Placed (InputValue S) → List ErrorValue → Type 0
  default_of true schema name t value es = es ≡ error_at value (needless_default_message name (printed t))
  default_of false schema name t value es = reported may shown schema (wrong_default_message name (printed t)) (Some t) value es

  -- a variable with no default value has no fault
  abbrev pub default_if_there : Catalog S C → List ℕ → TypeShape → Option (Placed (InputValue S)) → List ErrorValue → Type 0
  default_if_there schema name t None es = es ≡ []
  default_if_there schema name t (Some value) es = default_of (is_never_null t) schema name t value es

  -- at a node: a definition of a variable, by its type
  abbrev pub wrong_default : Catalog S C → Node S → List ErrorValue → Type 0
  wrong_default schema (variable_definition d) es = default_if_there schema d.0.item.now (shape d.1.var_type.item) d.1.default_value es
  wrong_default schema _ es = es ≡ []

  -- at the definition of a variable: its type is never null and it has a default value, or its default value has a
  -- fault
  abbrev pub wrong_defaults : DocumentScope S C → Occurrence S C → List ErrorValue → Type 0
  wrong_defaults scope o es = wrong_default scope.schema o.node es

module _ {S C : Type 0} (may : Answers (InputValue S) C) where
  -- a default value, if there is one, has a type that may be null, and conforms to it
  abbrev pub IsRightDefault : Catalog S C → TypeShape → Option (Placed (InputValue S)) → Type 0
  IsRightDefault schema t None = Unit {0}
  IsRightDefault schema t (Some value) = (is_never_null t ≡ false) × ConformsTo schema may t value.item

  -- at a node: that of a variable
  abbrev pub HasRightDefault : Catalog S C → Node S → Type 0
  HasRightDefault schema (variable_definition d) = IsRightDefault schema (shape d.1.var_type.item) d.1.default_value
  HasRightDefault schema _ = Unit {0}
