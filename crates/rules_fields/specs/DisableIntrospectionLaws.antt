-- When the rule finds nothing at a node. In specs/, since ghost members of an impl cite nothing else.
use Rattle.std.proofs.Common.{◌≡◌, ◌↔◌, List, [], refl}
use Rattle.walk.specs.ContextState.{DocumentScope}
use Rattle.events.specs.Node.{Node, field}
use Rattle.events.specs.Occurrence.{Occurrence}
use Rattle.rules_support.specs.FoundLaws.{none_where}
use Rattle.rules_fields.specs.DisableIntrospection.{is_introspection, introspection_at, introspection_fields}
use Rattle.rules_fields.specs.DisableIntrospection.{AsksNoSchema}

none_at : {S : Type 0} (n : Node S) → (introspection_at n ≡ []) ↔ AsksNoSchema n
none_at (field f) = none_where (is_introspection f.item.name.item.now) _
none_at _ = (λ e. tt, λ u. refl)

-- nothing is found at an occurrence if and only if no field there asks for the schema
pub none_introspection : {S C : Type 0} (scope : DocumentScope S C) (o : Occurrence S C)
    → (introspection_fields scope o ≡ []) ↔ AsksNoSchema o.node
none_introspection scope o = none_at o.node
