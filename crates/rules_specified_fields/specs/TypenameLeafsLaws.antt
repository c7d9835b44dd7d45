-- When the rule finds nothing at a node. In specs/, since ghost members of an impl cite nothing else.
use Rattle.std.proofs.Common.{◌≡◌, ◌↔◌, [], refl}
use Rattle.std.specs.Prelude.{Bool, true, false, Option, is_some, if◌then◌else◌}
use Rattle.language_types.specs.Types.{TypeShape}
use Rattle.language.specs.declared.tree.Field.{Field}
use Rattle.meta.specs.declared.kinds.MetaTypeOf.{MetaTypeOf}
use Rattle.walk.specs.ContextState.{DocumentScope}
use Rattle.events.specs.Node.{Node, Placed, field}
use Rattle.events.specs.Occurrence.{Occurrence}
use Rattle.rules_specified_fields.specs.TypenameLeafs.{is_implicit_typename, set_of_leaf, typename_set_at}
use Rattle.rules_specified_fields.specs.TypenameLeafs.{typename_sets, HasNoTypenameSet}

none_if : {S : Type 0} (is_typename has_set : Bool) (f : Placed (Field S))
    → ((if is_typename then set_of_leaf has_set f else []) ≡ []) ↔ (is_typename ≡ true → has_set ≡ false)
none_if true true f = (λ e. absurd cc, λ h. let bad : true ≡ false = h refl in absurd cc)
none_if true false f = (λ e is. refl, λ h. refl)
none_if false has_set f = (λ e is. absurd cc, λ h. refl)

none_at : {S C : Type 0} (parent : Option (MetaTypeOf S C)) (written : Option TypeShape) (n : Node S)
    → (typename_set_at parent written n ≡ []) ↔ HasNoTypenameSet parent written n
none_at parent written (field f) =
    none_if (is_implicit_typename parent written f.item.name.item.now) (is_some f.item.selection_set) f
none_at parent written _ = (λ e. tt, λ u. refl)

-- nothing is found at an occurrence if and only if no such `__typename` with a selection set stands there
pub none_of_typename : {S C : Type 0} (scope : DocumentScope S C) (o : Occurrence S C) → (typename_sets scope o ≡ [])
    ↔ HasNoTypenameSet o.types.parent o.types.literal o.node
none_of_typename scope o = none_at o.types.parent o.types.literal o.node
