-- When nothing is reported of a value. In specs/, since the laws of the rules cite it.
use Rattle.std.proofs.Common.{◌≡◌, ◌↔◌, ℕ, List, [], ◌∷◌, Option, Some, None, refl, ap, sym, ◌∙◌, subst}
use Rattle.language_values.specs.declared.value.InputValue.{InputValue}
use Rattle.language_types.specs.Types.{TypeShape}
use Rattle.meta.specs.Answers.{Answers}
use Rattle.schema.specs.Catalog.{Catalog}
use Rattle.events.specs.Node.{Placed}
use Rattle.walk.specs.ErrorValue.{ErrorValue}
use Rattle.literals.specs.Judged.{WrittenFault}
use Rattle.literals.specs.Laws.{OneAnswer}
use Rattle.literals.proofs.WrittenLaws.{one_written}
use Rattle.rules_values.specs.Conforms.{ConformsTo}
use Rattle.rules_values.specs.ConformsLaws.{written_conforms}
use Rattle.rules_values.specs.Faults.{faulty, reported}

no_fault : {S : Type 0} (message : List ℕ → List ℕ) (value : Placed (InputValue S)) (fault : Option (List ℕ))
    → faulty message value fault ≡ [] → fault ≡ None
no_fault message value None e = refl
no_fault message value (Some fault) e = absurd cc

module _ {S C : Type 0} (may : Answers (InputValue S) C) (shown : InputValue S → List ℕ) (one : OneAnswer may) where
  -- nothing is reported where a type is expected if and only if the value conforms to it
  pub reported_right : (schema : Catalog S C) (message : List ℕ → List ℕ) (t : TypeShape)
      (value : Placed (InputValue S)) (es : List ErrorValue)
      → reported may shown schema message (Some t) value es → (es ≡ []) ↔ ConformsTo schema may t value.item
  reported_right schema message t value es (f, told, is) =
      let law = written_conforms schema may shown t value.item in (
        λ e. law.0 (subst (WrittenFault schema may shown value.item t) (no_fault message value f (sym is ∙ e)) told),
        λ c. is ∙ ap (faulty message value) (one_written schema may shown one value.item t f None told (law.1 c)),
      )
