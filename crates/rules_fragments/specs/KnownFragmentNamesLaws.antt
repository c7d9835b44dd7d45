-- When the rule finds nothing at a node. In specs/, since ghost members of an impl cite nothing else.
use Rattle.std.proofs.Common.{◌≡◌, ◌↔◌, ℕ, List, [], refl}
use Rattle.walk.specs.ContextState.{DocumentScope}
use Rattle.walk.specs.Names.{is_among}
use Rattle.events.specs.Node.{Node, fragment_spread}
use Rattle.events.specs.Occurrence.{Occurrence}
use Rattle.rules_support.specs.FoundLaws.{none_unless}
use Rattle.rules_fragments.specs.KnownFragmentNames.{unknown_spread, unknown_fragments, SpreadsKnown}

none_at : {S : Type 0} (known : List (List ℕ)) (n : Node S) → (unknown_spread known n ≡ []) ↔ SpreadsKnown known n
none_at known (fragment_spread s) = none_unless (is_among known s.item.name.item.now) _
none_at known _ = (λ e. tt, λ u. refl)

-- nothing is found at an occurrence if and only if what is spread there is known
pub none_unknown : {S C : Type 0} (scope : DocumentScope S C) (o : Occurrence S C) → (unknown_fragments scope o ≡ [])
    ↔ SpreadsKnown scope.known o.node
none_unknown scope o = none_at scope.known o.node
