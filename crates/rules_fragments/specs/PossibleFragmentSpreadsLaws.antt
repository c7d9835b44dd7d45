-- When the rule finds nothing at a node. In specs/, since ghost members of an impl cite nothing else.
use Rattle.std.proofs.Common.{◌≡◌, ◌↔◌, List, [], refl}
use Rattle.std.specs.Prelude.{ℕ, Option, Some, None}
use Rattle.language_types.specs.declared.position.SourcePosition.{SourcePosition}
use Rattle.meta.specs.declared.kinds.MetaTypeOf.{MetaTypeOf}
use Rattle.schema.specs.Catalog.{Catalog}
use Rattle.walk.specs.ContextState.{DocumentScope}
use Rattle.events.specs.Node.{Node, fragment_spread, inline_fragment}
use Rattle.events.specs.Occurrence.{Occurrence}
use Rattle.rules_support.specs.FoundLaws.{none_unless}
use Rattle.rules_fragments.specs.PossibleFragmentSpreads.{TypesByName, may_stand, inline_type, impossible}
use Rattle.rules_fragments.specs.PossibleFragmentSpreads.{impossible_at, impossible_spreads, IsPossible, IsPossibleAt}

module _ {S C : Type 0} (schema : Catalog S C) where
  none_of : (parent t : Option (MetaTypeOf S C)) (name : Option (List ℕ)) (place : SourcePosition)
      → (impossible schema parent t name place ≡ []) ↔ IsPossible schema parent t
  none_of None t name place = (λ e. tt, λ u. refl)
  none_of (Some parent) None name place = (λ e. tt, λ u. refl)
  none_of (Some parent) (Some t) name place = none_unless (may_stand schema parent t) _

  none_at : (types : TypesByName S C) (parent : Option (MetaTypeOf S C)) (n : Node S)
      → (impossible_at schema types parent n ≡ []) ↔ IsPossibleAt schema types parent n
  none_at types parent (fragment_spread s) = none_of parent (types s.item.name.item.now) (Some s.item.name.item.now) s.span.start
  none_at types parent (inline_fragment i) = none_of parent (inline_type schema i.item) None i.span.start
  none_at types parent _ = (λ e. tt, λ u. refl)

-- nothing is found at an occurrence if and only if the fragment there is possible
pub none_impossible : {S C : Type 0} (scope : DocumentScope S C) (types : TypesByName S C) (o : Occurrence S C)
    → (impossible_spreads scope types o ≡ []) ↔ IsPossibleAt scope.schema types o.types.parent o.node
none_impossible scope types o = none_at scope.schema types o.types.parent o.node
