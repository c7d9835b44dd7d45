-- A value against a type as it is written.
use Rattle.std.proofs.Common.{◌≡◌, ℕ, List, Option, Some, None, sym, ◌∙◌, subst}
use Rattle.language_values.specs.declared.value.InputValue.{InputValue}
use Rattle.language_types.specs.Types.{TypeShape}
use Rattle.meta.specs.Answers.{Answers}
use Rattle.schema.specs.Catalog.{Catalog}
use Rattle.schema.specs.Wrapped.{WrappedMeta}
use Rattle.literals.specs.Judged.{FaultAt, WrittenFault, written_type}
use Rattle.literals.specs.Laws.{OneAnswer}
use Rattle.literals.proofs.OneFault.{one_fault}

module _ {S C : Type 0} (schema : Catalog S C) (may : Answers (InputValue S) C) (shown : InputValue S → List ℕ) where
  -- against what is written, by what it is
  pub fault_at : (value : InputValue S) (t : TypeShape) (o : Option (WrappedMeta S C)) (f : Option (List ℕ)) → o ≡ written_type schema t → FaultAt schema may shown value o f → WrittenFault schema may shown value t f
  fault_at value t o f e told = subst (λ z. FaultAt schema may shown value z f) e told

  module _ (one : OneAnswer may) where
    one_at : (o : Option (WrappedMeta S C)) (value : InputValue S) (f g : Option (List ℕ)) → FaultAt schema may shown value o f → FaultAt schema may shown value o g → f ≡ g
    one_at None value f g p q = p ∙ sym q
    one_at (Some w) value f g p q = one_fault schema may shown one value w f g p q

    -- it is one, too
    pub one_written : (value : InputValue S) (t : TypeShape) (f g : Option (List ℕ)) → WrittenFault schema may shown value t f → WrittenFault schema may shown value t g → f ≡ g
    one_written value t = one_at (written_type schema t) value
