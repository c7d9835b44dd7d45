-- When the rule finds nothing at a node. In specs/, since ghost members of an impl cite nothing else.
use Rattle.std.proofs.Common.{◌≡◌, ◌↔◌, List, [], refl}
use Rattle.std.specs.Prelude.{Option, Some, None}
use Rattle.language.specs.declared.tree.Arguments.{Arguments}
use Rattle.walk.specs.ContextState.{DocumentScope}
use Rattle.events.specs.Node.{Node, Placed, field, directive}
use Rattle.events.specs.Occurrence.{Occurrence}
use Rattle.rules_support.specs.RepeatsLaws.{none_repeat_in}
use Rattle.rules_arguments.specs.UniqueArgumentNames.{repeated_argument_message, repeated_in, repeated_at}
use Rattle.rules_arguments.specs.UniqueArgumentNames.{repeated_arguments, AreDistinctArguments, HasDistinctArguments}

module _ {S : Type 0} where
  none_among : (written : Option (Placed (Arguments S))) → (repeated_in written ≡ []) ↔ AreDistinctArguments written
  none_among None = (λ e. tt, λ u. refl)
  none_among (Some arguments) = none_repeat_in repeated_argument_message arguments.item.items.items

  none_at : (n : Node S) → (repeated_at n ≡ []) ↔ HasDistinctArguments n
  none_at (field f) = none_among f.item.arguments
  none_at (directive d) = none_among d.item.arguments
  none_at _ = (λ e. tt, λ u. refl)

-- nothing is found at an occurrence if and only if the arguments there are distinct
pub none_repeated : {S C : Type 0} (scope : DocumentScope S C) (o : Occurrence S C) → (repeated_arguments scope o ≡ [])
    ↔ HasDistinctArguments o.node
none_repeated scope o = none_at o.node
