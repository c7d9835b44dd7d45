-- When the rule finds nothing at a node. In specs/, since ghost members of an impl cite nothing else.
use Rattle.std.proofs.Common.{◌≡◌, ◌↔◌, List, [], refl, ap, sym, ◌∙◌, subst}
use Rattle.std.specs.Prelude.{Option, Some, None, true, false}
use Rattle.std.specs.List.{Contains, flat_map}
use Rattle.std.specs.Option.{option_map_or}
use Rattle.language.specs.declared.tree.OperationType.{OperationType}
use Rattle.language.specs.declared.tree.OperationType.TheVariants as kind
use Rattle.language.specs.declared.tree.Field.{Field}
use Rattle.language.proofs.Induction.{selection_induction}
use Rattle.language.specs.declared.tree.FragmentSpread.{FragmentSpread}
use Rattle.language.specs.declared.tree.InlineFragment.{InlineFragment}
use Rattle.language.specs.declared.tree.Selection.{Selection, out-Selection, out-roll-Selection}
use Rattle.language.specs.declared.tree.Selection.TheOpen as opened
use Rattle.language.specs.declared.tree.Selection.TheVariants as selection
use Rattle.meta.specs.declared.kinds.MetaTypeOf.{MetaTypeOf}
use Rattle.walk.specs.ContextState.{DocumentScope}
use Rattle.walk.specs.ErrorValue.{ErrorValue}
use Rattle.walk.specs.RuleLaws.{none_each, none_all}
use Rattle.events.specs.Node.{Node, Name, Placed, field, operation_definition}
use Rattle.events.specs.Occurrence.{Occurrence}
use Rattle.rules_support.specs.FoundLaws.{none_unless, none_where}
use Rattle.rules_fields.specs.FieldsOnCorrectType.{is_typename, typename_layer, root_typename, root_typenames}
use Rattle.rules_fields.specs.FieldsOnCorrectType.{has_field, unknown_field, wrong_type_at, fields_of_wrong_type}
use Rattle.rules_fields.specs.FieldsOnCorrectType.{HasNoRootTypename, HasRightFields}

module _ {S : Type 0} where
  out_field : (f : Placed (Field S)) → out-Selection S (selection.Field f) ≡ opened.Field f
  out_field f = ap (out-Selection S) (sym (selection.rolls-Field f)) ∙ out-roll-Selection S (opened.Field f)

  none_in : (set : List (Selection S)) → flat_map root_typename set ≡ [] → (f : Placed (Field S))
      → Contains set (selection.Field f) → is_typename f.item.name.item.now ≡ false
  none_in set e f there =
      let none = none_each root_typename set e (selection.Field f) there in
      (none_where (is_typename f.item.name.item.now) _).0 (ap typename_layer (sym (out_field f)) ∙ none)

  out_spread : (p : Placed (FragmentSpread S)) → out-Selection S (selection.FragmentSpread p) ≡ opened.FragmentSpread p
  out_spread p = ap (out-Selection S) (sym (selection.rolls-FragmentSpread p)) ∙ out-roll-Selection S (opened.FragmentSpread p)

  out_inline : (i : Placed (InlineFragment S)) → out-Selection S (selection.InlineFragment i) ≡ opened.InlineFragment i
  out_inline i = ap (out-Selection S) (sym (selection.rolls-InlineFragment i)) ∙ out-roll-Selection S (opened.InlineFragment i)

  none_of : (set : List (Selection S)) → ((f : Placed (Field S)) → Contains set (selection.Field f)
      → is_typename f.item.name.item.now ≡ false)
      → (s : Selection S) → Contains set s → root_typename s ≡ []
  none_of set h = selection_induction (λ s. Contains set s → root_typename s ≡ [])
      (λ f below there. ap typename_layer (out_field f) ∙ (none_where (is_typename f.item.name.item.now) _).1 (h f there))
      (λ p there. ap typename_layer (out_spread p))
      (λ i below there. ap typename_layer (out_inline i))

  none_at_root : (k : OperationType) (set : List (Selection S)) → (root_typenames k set ≡ []) ↔ HasNoRootTypename k set
  none_at_root kind.Subscription set = (
    none_in set,
    λ h. none_all root_typename set (none_of set h),
  )
  none_at_root _ set = (λ e. tt, λ u. refl)

module _ {S C : Type 0} where
  -- nothing is found of a field if and only if the type around it has it, or is not known
  pub none_if_known : (parent : Option (MetaTypeOf S C)) (name : Name) → (unknown_field parent name ≡ [])
      ↔ (option_map_or (λ t. has_field t name.item.now) parent true ≡ true)
  none_if_known None name = (λ e. refl, λ e. refl)
  none_if_known (Some t) name = none_unless (has_field t name.item.now) _

  none_at : (parent : Option (MetaTypeOf S C)) (n : Node S) → (wrong_type_at parent n ≡ []) ↔ HasRightFields parent n
  none_at parent (field f) = none_if_known parent f.item.name
  none_at parent (operation_definition o) = none_at_root o.item.operation_type o.item.selection_set.items
  none_at parent _ = (λ e. tt, λ u. refl)

-- nothing is found at an occurrence if and only if the fields there are right
pub none_of_wrong_type : {S C : Type 0} (scope : DocumentScope S C) (o : Occurrence S C)
    → (fields_of_wrong_type scope o ≡ []) ↔ HasRightFields o.types.parent o.node
none_of_wrong_type scope o = none_at o.types.parent o.node
