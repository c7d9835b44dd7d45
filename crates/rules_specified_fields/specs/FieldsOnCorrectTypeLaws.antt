-- When the rule finds nothing at a node. In specs/, since ghost members of an impl cite nothing else.
use Rattle.std.proofs.Common.{◌≡◌, ◌↔◌, List, [], refl}
use Rattle.std.specs.Prelude.{Bool, true, false, Option, if◌then◌else◌}
use Rattle.meta.specs.declared.kinds.MetaTypeOf.{MetaTypeOf}
use Rattle.walk.specs.ContextState.{DocumentScope}
use Rattle.walk.specs.ErrorValue.{ErrorValue}
use Rattle.events.specs.Node.{Node, field}
use Rattle.events.specs.Occurrence.{Occurrence}
use Rattle.rules_fields.specs.FieldsOnCorrectTypeLaws.{none_if_known}
use Rattle.rules_specified_fields.specs.FieldsOnCorrectType.{is_composite, unknown_field_at, unknown_fields}
use Rattle.rules_specified_fields.specs.FieldsOnCorrectType.{HasKnownField}

-- errors of a composite type's field
none_if_composite : {P : Type 0} (composite : Bool) (es : List ErrorValue) → (es ≡ []) ↔ P
    → ((if composite then es else []) ≡ []) ↔ (composite ≡ true → P)
none_if_composite true es law = (λ e is. law.0 e, λ h. law.1 (h refl))
none_if_composite false es law = (λ e is. absurd cc, λ h. refl)

none_at : {S C : Type 0} (parent : Option (MetaTypeOf S C)) (n : Node S) → (unknown_field_at parent n ≡ []) ↔ HasKnownField parent n
none_at parent (field f) = none_if_composite (is_composite parent) _ (none_if_known parent f.item.name)
none_at parent _ = (λ e. tt, λ u. refl)

-- nothing is found at an occurrence if and only if the field there is known
pub none_unknown : {S C : Type 0} (scope : DocumentScope S C) (o : Occurrence S C) → (unknown_fields scope o ≡ [])
    ↔ HasKnownField o.types.parent o.node
none_unknown scope o = none_at o.types.parent o.node
