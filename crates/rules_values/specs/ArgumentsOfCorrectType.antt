-- Values of arguments that do not conform to the argument's type (section 5.6.1).
use Rattle.std.specs.Prelude.{◌≡◌, ℕ, List, [], ◌++◌, Option, Some, codes}
use Rattle.language_values.specs.declared.value.InputValue.{InputValue}
use Rattle.language_types.specs.Types.{TypeShape}
use Rattle.meta.specs.Answers.{Answers}
use Rattle.schema.specs.Catalog.{Catalog}
use Rattle.events.specs.Node.{Node, argument}
use Rattle.events.specs.Occurrence.{Occurrence}
use Rattle.walk.specs.ContextState.{DocumentScope}
use Rattle.walk.specs.ErrorValue.{ErrorValue}
use Rattle.rules_values.specs.Conforms.{ConformsTo}
use Rattle.rules_values.specs.Faults.{reported}

abbrev pub wrong_argument_message : List ℕ → List ℕ → List ℕ
wrong_argument_message name fault = codes "Invalid value for argument \"" ++ (name ++ (codes "\", reason: " ++ fault))

module _ {S C : Type 0} (may : Answers (InputValue S) C) (shown : InputValue S → List ℕ) where
  -- at a node: an argument, whose value is judged against the type that is expected
  abbrev pub wrong_argument : Catalog S C → Option TypeShape → Node S → List ErrorValue → Type 0
  wrong_argument schema t (argument a) es = reported may shown schema (wrong_argument_message a.0.item.now) t a.1 es
  wrong_argument schema t _ es = es ≡ []

  -- at an argument: its value has a fault against the type of the first argument of its name, on its field or directive
  abbrev pub wrong_arguments : DocumentScope S C → Occurrence S C → List ErrorValue → Type 0
  wrong_arguments scope o es = wrong_argument scope.schema o.types.input o.node es

module _ {S C : Type 0} (may : Answers (InputValue S) C) where
  -- at a node: the value of an argument conforms to the type that is expected, where one is
  abbrev pub HasRightValue : Catalog S C → Node S → Option TypeShape → Type 0
  HasRightValue schema (argument a) (Some t) = ConformsTo schema may t a.1.item
  HasRightValue schema _ _ = Unit {0}
