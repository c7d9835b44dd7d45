-- When the rule gives nothing at a node. In specs/, since ghost members of an impl cite nothing else.
use Rattle.std.proofs.Common.{◌≡◌, ◌↔◌, ℕ, List, [], ◌∷◌, Bool, true, false, Option, Some, None, refl, sym, ◌∙◌}
use Rattle.language_values.specs.declared.value.InputValue.{InputValue}
use Rattle.language_types.specs.Types.{TypeShape, is_never_null, shape}
use Rattle.meta.specs.Answers.{Answers}
use Rattle.schema.specs.Catalog.{Catalog}
use Rattle.events.specs.Node.{Node, Placed}
use Rattle.events.specs.Occurrence.{Occurrence}
use Rattle.walk.specs.ContextState.{DocumentScope}
use Rattle.walk.specs.ErrorValue.{ErrorValue}
use Rattle.literals.specs.Laws.{OneAnswer}
use Rattle.rules_values.specs.Conforms.{ConformsTo}
use Rattle.rules_values.specs.DefaultValuesOfCorrectType.{HasRightDefault, IsRightDefault, default_of, default_if_there}
use Rattle.rules_values.specs.DefaultValuesOfCorrectType.{wrong_default, wrong_defaults}
use Rattle.rules_values.specs.FaultsLaws.{reported_right}

some_error : {X : Type 0} (x : X) (xs : List X) → x ∷ xs ≡ [] → ⊥
some_error x xs e = cc

module _ {S C : Type 0} (may : Answers (InputValue S) C) (shown : InputValue S → List ℕ) (one : OneAnswer may) where
  right_of : (b : Bool) (schema : Catalog S C) (name : List ℕ) (t : TypeShape) (value : Placed (InputValue S))
      (es : List ErrorValue) → default_of may shown b schema name t value es → (es ≡ [])
      ↔ ((b ≡ false) × ConformsTo schema may t value.item)
  right_of true schema name t value es p = (λ e. absurd (some_error _ _ (sym p ∙ e)), λ h. absurd (let bad : true ≡ false = h.0 in cc))
  right_of false schema name t value es p =
      let law = reported_right may shown one schema _ t value es p in (λ e. (refl, law.0 e), λ h. law.1 h.1)

  right_if_there : (schema : Catalog S C) (name : List ℕ) (t : TypeShape) (o : Option (Placed (InputValue S)))
      (es : List ErrorValue) → default_if_there may shown schema name t o es → (es ≡ []) ↔ IsRightDefault may schema t o
  right_if_there schema name t None es p = (λ e. tt, λ u. p)
  right_if_there schema name t (Some value) es p = right_of (is_never_null t) schema name t value es p

  right_at : (schema : Catalog S C) (n : Node S) (es : List ErrorValue) → wrong_default may shown schema n es
      → (es ≡ []) ↔ HasRightDefault may schema n
  right_at schema (Node.variable_definition d) es p = right_if_there schema d.0.item.now (shape d.1.var_type.item) d.1.default_value es p
  right_at schema _ es p = (λ e. tt, λ u. p)

  -- nothing is given at an occurrence if and only if the default value there is right
  pub defaults_right : (scope : DocumentScope S C) (o : Occurrence S C) (es : List ErrorValue)
      → wrong_defaults may shown scope o es → (es ≡ []) ↔ HasRightDefault may scope.schema o.node
  defaults_right scope o es p = right_at scope.schema o.node es p
