-- When the rule finds nothing at a node. In specs/, since ghost members of an impl cite nothing else.
use Rattle.std.proofs.Common.{◌≡◌, ◌↔◌, ℕ, List, [], refl}
use Rattle.std.specs.Prelude.{Bool, true, false, not, Option, Some, None, is_some}
use Rattle.language_types.specs.Types.{TypeShape, printed}
use Rattle.language.specs.declared.tree.Field.{Field}
use Rattle.meta.specs.declared.kinds.MetaTypeOf.{MetaTypeOf}
use Rattle.meta.specs.Kinds.{is_leaf_meta}
use Rattle.walk.specs.ContextState.{DocumentScope}
use Rattle.events.specs.Node.{Node, Placed, field}
use Rattle.events.specs.Occurrence.{Occurrence}
use Rattle.rules_fields.specs.ScalarLeafs.{wrong_set_of, wrong_set_at, wrong_sets, HasRightSet}

none_of : {S : Type 0} (is_leaf has_set : Bool) (t : List ℕ) (f : Placed (Field S))
    → (wrong_set_of is_leaf has_set t f ≡ []) ↔ (has_set ≡ not is_leaf)
none_of true true t f = (λ e. absurd cc, λ e. absurd cc)
none_of true false t f = (λ e. refl, λ e. refl)
none_of false true t f = (λ e. refl, λ e. refl)
none_of false false t f = (λ e. absurd cc, λ e. absurd cc)

none_at : {S C : Type 0} (t : Option (MetaTypeOf S C)) (written : Option TypeShape) (n : Node S)
    → (wrong_set_at t written n ≡ []) ↔ HasRightSet n t written
none_at (Some t) (Some written) (field f) = none_of (is_leaf_meta t) (is_some f.item.selection_set) (printed written) f
none_at (Some t) None (field f) = (λ e. tt, λ u. refl)
none_at None written (field f) = (λ e. tt, λ u. refl)
none_at t written _ = (λ e. tt, λ u. refl)

-- nothing is found at an occurrence if and only if the selection set there is right
pub none_wrong_set : {S C : Type 0} (scope : DocumentScope S C) (o : Occurrence S C) → (wrong_sets scope o ≡ [])
    ↔ HasRightSet o.node o.types.current o.types.literal
none_wrong_set scope o = none_at o.types.current o.types.literal o.node
