-- What holds of the nodes of arguments, directives and variables holds of all that stand in these.
use Rattle.std.proofs.Common.{◌≡◌, List, Option, Bool, true, false, refl, sym, subst}
use Rattle.std.specs.declared.vec.Vec.{Vec}
use Rattle.std.specs.declared.alloc.Global.{Global}
use Rattle.language_values.proofs.ValueInduction.{value_induction}
use Rattle.language_values.proofs.Members.{Each-In}
use Rattle.language_types.specs.declared.position.Span.{Span}
use Rattle.language.specs.declared.tree.Arguments.{Arguments}
use Rattle.language.specs.declared.tree.Directive.{Directive}
use Rattle.language.specs.declared.tree.VariableDefinitions.{VariableDefinitions}
use Rattle.language_values.specs.declared.value.InputValue.{InputValue}
use Rattle.meta.specs.declared.arguments.Argument.{Argument}
use Rattle.schema.specs.Catalog.{Catalog}
use Rattle.events.specs.Node.{Node, Placed, ArgumentEntry, ObjectEntry, VariableEntry}
use Rattle.events.specs.Occurrence.{Occurrence}
use Rattle.events.specs.Outline.{empty, beside, node_with, if_there, outline_of_bare_value, outline_of_value, outline_of_object_field, outline_of_argument, outline_of_arguments, outline_of_directive, outline_of_directives, outline_of_variable_definition, outline_of_variable_definitions}
use Rattle.events.specs.SchemaView.{directive_arguments}
use Rattle.events.specs.Typing.{Typing, at_argument, at_items, at_object_field, at_variable}
use Rattle.events.proofs.ValueOutlines.{of_null, of_scalar, of_enum, of_variable, of_list, of_object}
use Rattle.merge_walk_laws.proofs.Standing.{Holds, holds_empty, holds_node, holds_beside, holds_each, holds_if_there, holds_each_if_there}

-- the node is none of a document, a definition, a set and a selection
abbrev pub is_detail : {S : Type 0} → Node S → Bool
is_detail (Node.document d) = false
is_detail (Node.operation_definition o) = false
is_detail (Node.fragment_definition f) = false
is_detail (Node.selection_set s) = false
is_detail (Node.field f) = false
is_detail (Node.fragment_spread s) = false
is_detail (Node.inline_fragment i) = false
is_detail _ = true

module _ {S C : Type 0} (schema : Catalog S C) (P : Occurrence S C → Type 0) (each_detail : (n : Node S) (t : Typing S C) → is_detail n ≡ true → P (record { node = n; types = t })) where
  abbrev HoldsIn : InputValue S → Type 0
  HoldsIn v = (p : Span) (t : Typing S C) → Holds P (outline_of_bare_value schema v p t)

  -- in a value with none in it
  alone : (n : Node S) (t : Typing S C) → is_detail n ≡ true → Holds P (node_with n t empty)
  alone n t e = holds_node P n t empty (each_detail n t e) (holds_empty P)

  in_value : (v : InputValue S) → HoldsIn v
  in_value =
      value_induction HoldsIn
      (λ p t. subst (Holds P) (sym (of_null schema p t)) (alone _ t refl))
      (λ s p t. subst (Holds P) (sym (of_scalar schema s p t)) (alone _ t refl))
      (λ s p t. subst (Holds P) (sym (of_enum schema s p t)) (alone _ t refl))
      (λ s p t. subst (Holds P) (sym (of_variable schema s p t)) (alone _ t refl))
      (λ xs h p t. subst (Holds P) (sym (of_list schema xs p t))
      (holds_node P (Node.list_value (record { item = xs.items; span = p })) t _ (each_detail _ t refl)
      (holds_each P (outline_of_value schema (at_items t)) xs.items (λ x i. Each-In (λ (y : Placed (InputValue S)). HoldsIn y.item) xs.items x h i x.span (at_items t)))))
      (λ es h p t. subst (Holds P) (sym (of_object schema es p t))
      (holds_node P (Node.object_value (record { item = es.items; span = p })) t _ (each_detail _ t refl)
      (holds_each P (outline_of_object_field schema t) es.items
      (λ e i. let u = at_object_field schema t _ in holds_node P (Node.object_field e) u (outline_of_value schema u e.1) (each_detail _ u refl) (Each-In (λ (y : ObjectEntry S). HoldsIn y.1.item) es.items e h i e.1.span u)))))

  in_argument : (arguments : Option (List (Argument S))) (t : Typing S C) (a : ArgumentEntry S) → Holds P (outline_of_argument schema arguments t a)
  in_argument arguments t a =
      let u = at_argument arguments t a.0.item.now in
      holds_node P (Node.argument a) u (outline_of_value schema u a.1) (each_detail _ u refl) (in_value a.1.item a.1.span u)

  pub in_arguments : (arguments : Option (List (Argument S))) (t : Typing S C) (written : Option (Placed (Arguments S))) → Holds P (outline_of_arguments schema arguments t written)
  in_arguments arguments t written =
      holds_if_there P _ (λ list. holds_each P (outline_of_argument schema arguments t) list.item.items.items (λ a i. in_argument arguments t a)) written

  in_directive : (t : Typing S C) (d : Placed (Directive S)) → Holds P (outline_of_directive schema t d)
  in_directive t d =
      let arguments = directive_arguments schema d.item.name.item.now in
      holds_node P (Node.directive d) t (outline_of_arguments schema arguments t d.item.arguments) (each_detail _ t refl) (in_arguments arguments t d.item.arguments)

  pub in_directives : (t : Typing S C) (written : Option (Vec (Placed (Directive S)) Global)) → Holds P (outline_of_directives schema t written)
  in_directives t written = holds_each_if_there P (outline_of_directive schema t) (in_directive t) written

  in_variable : (t : Typing S C) (d : VariableEntry S) → Holds P (outline_of_variable_definition schema t d)
  in_variable t d =
      let u = at_variable t d.1 in
      let value = if_there (outline_of_value schema u) d.1.default_value in
      let directives = outline_of_directives schema u d.1.directives in
      holds_node P (Node.variable_definition d) u (beside value directives) (each_detail _ u refl)
      (holds_beside P value directives (holds_if_there P (outline_of_value schema u) (λ v. in_value v.item v.span u) d.1.default_value) (in_directives u d.1.directives))

  pub in_variables : (t : Typing S C) (written : Option (Placed (VariableDefinitions S))) → Holds P (outline_of_variable_definitions schema t written)
  in_variables t written =
      holds_if_there P _ (λ list. holds_each P (outline_of_variable_definition schema t) list.item.items.items (λ d i. in_variable t d)) written
