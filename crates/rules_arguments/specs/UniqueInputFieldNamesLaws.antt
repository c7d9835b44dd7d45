-- When the rule finds nothing at a node. In specs/, since ghost members of an impl cite nothing else.
use Rattle.std.proofs.Common.{◌≡◌, ◌↔◌, List, [], refl}
use Rattle.walk.specs.ContextState.{DocumentScope}
use Rattle.events.specs.Node.{Node, object_value}
use Rattle.events.specs.Occurrence.{Occurrence}
use Rattle.rules_support.specs.RepeatsLaws.{none_repeat_of}
use Rattle.rules_arguments.specs.UniqueInputFieldNames.{repeated_key_message, repeated_in_object, repeated_keys}
use Rattle.rules_arguments.specs.UniqueInputFieldNames.{HasDistinctKeys}

none_at : {S : Type 0} (n : Node S) → (repeated_in_object n ≡ []) ↔ HasDistinctKeys n
none_at (object_value v) = none_repeat_of repeated_key_message v.item
none_at _ = (λ e. tt, λ u. refl)

-- nothing is found at an occurrence if and only if the keys there are distinct
pub none_repeated : {S C : Type 0} (scope : DocumentScope S C) (o : Occurrence S C) → (repeated_keys scope o ≡ []) ↔ HasDistinctKeys o.node
none_repeated scope o = none_at o.node
