-- The order of scopes.
use Rattle.std.specs.Prelude.{◌≡◌, ◌↔◌}
use Rattle.std.specs.Cmp.{IsTotalOrder}
use Rattle.std.specs.declared.cmp.Ordering.{Ordering}
use Rattle.std.specs.declared.cmp.Ordering.TheVariants.{Equal}
use Rattle.operation_scopes.specs.declared.scope.Scope.{Scope}
use Rattle.operation_scopes.specs.Scopes.{scope_name}

-- The order is total, and scopes compare as equal if and only if they have the same kind and the same name.
pub record AreOrdered (cmp : Scope → Scope → Ordering) : Type 0 where
  pub total : IsTotalOrder cmp
  pub same : (a b : Scope) → (cmp a b ≡ Equal) ↔ (scope_name a ≡ scope_name b)
