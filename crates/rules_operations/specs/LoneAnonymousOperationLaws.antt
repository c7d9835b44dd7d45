-- When the rule finds nothing at an operation. In specs/, since ghost members of an impl cite nothing else.
use Rattle.std.proofs.Common.{◌≡◌, ◌↔◌, List, [], refl}
use Rattle.std.specs.Prelude.{Bool, true, false, Option, Some, None, is_some}
use Rattle.language.specs.declared.tree.Operation.{Operation}
use Rattle.walk.specs.ContextState.{DocumentScope}
use Rattle.events.specs.Node.{Node, Name, Placed, operation_definition}
use Rattle.events.specs.Occurrence.{Occurrence}
use Rattle.rules_operations.specs.LoneAnonymousOperation.{nameless, anonymous_at, anonymous_among, HasName}
use Rattle.rules_operations.specs.LoneAnonymousOperation.{HasNameAmong}

module _ {S : Type 0} where
  none_if_named : (o : Placed (Operation S)) (name : Option Name) → (nameless o name ≡ []) ↔ (is_some name ≡ true)
  none_if_named o None = (λ e. absurd cc, λ e. absurd cc)
  none_if_named o (Some name) = (λ e. refl, λ e. refl)

  none_at : (n : Node S) → (anonymous_at n ≡ []) ↔ HasName n
  none_at (operation_definition o) = none_if_named o o.item.name
  none_at _ = (λ e. tt, λ u. refl)

-- nothing is found at an occurrence if and only if it has a name, or is the only operation
pub none_anonymous : {S C : Type 0} (scope : DocumentScope S C) (several : Bool) (o : Occurrence S C)
    → (anonymous_among scope several o ≡ []) ↔ HasNameAmong scope several o
none_anonymous scope true o = let at = none_at o.node in (λ e. λ is. at.0 e, λ named. at.1 (named refl))
none_anonymous scope false o = (λ e. λ is. absurd cc, λ named. refl)
