-- When the rule gives nothing at a node. In specs/, since ghost members of an impl cite nothing else.
use Rattle.std.proofs.Common.{◌≡◌, ◌↔◌, ℕ, List, [], Option, Some, None}
use Rattle.language_values.specs.declared.value.InputValue.{InputValue}
use Rattle.language_types.specs.Types.{TypeShape, shape}
use Rattle.meta.specs.Answers.{Answers}
use Rattle.schema.specs.Catalog.{Catalog}
use Rattle.events.specs.Node.{Node, Placed}
use Rattle.events.specs.Occurrence.{Occurrence}
use Rattle.walk.specs.ContextState.{DocumentScope}
use Rattle.walk.specs.ErrorValue.{ErrorValue}
use Rattle.literals.specs.Laws.{OneAnswer}
use Rattle.rules_values.specs.FaultsLaws.{reported_right}
use Rattle.rules_specified_values.specs.DefaultValuesOfCorrectType.{ConformingDefault, ConformsIfThere, faulty_default}
use Rattle.rules_specified_values.specs.DefaultValuesOfCorrectType.{faulty_defaults, faulty_if_there}

module _ {S C : Type 0} (may : Answers (InputValue S) C) (shown : InputValue S → List ℕ) (one : OneAnswer may) where
  right_if_there : (schema : Catalog S C) (name : List ℕ) (t : TypeShape) (o : Option (Placed (InputValue S)))
      (es : List ErrorValue) → faulty_if_there may shown schema name t o es → (es ≡ []) ↔ ConformsIfThere may schema t o
  right_if_there schema name t None es p = (λ e. tt, λ u. p)
  right_if_there schema name t (Some value) es p = reported_right may shown one schema _ t value es p

  right_at : (schema : Catalog S C) (n : Node S) (es : List ErrorValue) → faulty_default may shown schema n es
      → (es ≡ []) ↔ ConformingDefault may schema n
  right_at schema (Node.variable_definition d) es p = right_if_there schema d.0.item.now (shape d.1.var_type.item) d.1.default_value es p
  right_at schema _ es p = (λ e. tt, λ u. p)

  -- nothing is given at an occurrence if and only if the default value there conforms
  pub defaults_conform : (scope : DocumentScope S C) (o : Occurrence S C) (es : List ErrorValue)
      → faulty_defaults may shown scope o es → (es ≡ []) ↔ ConformingDefault may scope.schema o.node
  defaults_conform scope o es p = right_at scope.schema o.node es p
