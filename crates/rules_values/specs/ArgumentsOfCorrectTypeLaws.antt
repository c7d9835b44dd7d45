-- When the rule gives nothing at a node. In specs/, since ghost members of an impl cite nothing else.
use Rattle.std.proofs.Common.{◌≡◌, ◌↔◌, ℕ, List, [], Option, Some, None}
use Rattle.language_values.specs.declared.value.InputValue.{InputValue}
use Rattle.language_types.specs.Types.{TypeShape}
use Rattle.meta.specs.Answers.{Answers}
use Rattle.schema.specs.Catalog.{Catalog}
use Rattle.events.specs.Node.{Node}
use Rattle.events.specs.Occurrence.{Occurrence}
use Rattle.walk.specs.ContextState.{DocumentScope}
use Rattle.walk.specs.ErrorValue.{ErrorValue}
use Rattle.literals.specs.Laws.{OneAnswer}
use Rattle.rules_values.specs.ArgumentsOfCorrectType.{HasRightValue, wrong_argument, wrong_argument_message}
use Rattle.rules_values.specs.ArgumentsOfCorrectType.{wrong_arguments}
use Rattle.rules_values.specs.FaultsLaws.{reported_right}

module _ {S C : Type 0} (may : Answers (InputValue S) C) (shown : InputValue S → List ℕ) (one : OneAnswer may) where
  right_at : (schema : Catalog S C) (n : Node S) (t : Option TypeShape) (es : List ErrorValue)
      → wrong_argument may shown schema t n es → (es ≡ []) ↔ HasRightValue may schema n t
  right_at schema (Node.argument a) (Some t) es p = reported_right may shown one schema (wrong_argument_message a.0.item.now) t a.1 es p
  right_at schema (Node.argument a) None es p = (λ e. tt, λ u. p)
  right_at schema _ t es p = (λ e. tt, λ u. p)

  -- nothing is given at an occurrence if and only if the value there is right
  pub arguments_right : (scope : DocumentScope S C) (o : Occurrence S C) (es : List ErrorValue)
      → wrong_arguments may shown scope o es → (es ≡ []) ↔ HasRightValue may scope.schema o.node o.types.input
  arguments_right scope o es p = right_at scope.schema o.node o.types.input es p
