-- In a definition stands neither a definition nor a document. In specs/, since the laws of the rule cite it.
use Rattle.std.proofs.Common.{◌≡◌, List, [], ◌∷◌, ◌++◌, Bool, true, false, Option, Some, None, refl, sym, subst}
use Rattle.std.specs.Prelude.{Vec}
use Rattle.std.specs.declared.alloc.Global.{Global}
use Rattle.language_values.specs.Each.{Each, EachIfThere}
use Rattle.language_types.specs.declared.position.Span.{Span}
use Rattle.language.specs.declared.tree.Arguments.{Arguments}
use Rattle.language.specs.declared.tree.Directive.{Directive}
use Rattle.language.specs.declared.tree.Selection.{Selection}
use Rattle.language.specs.declared.tree.VariableDefinitions.{VariableDefinitions}
use Rattle.language_values.specs.declared.value.InputValue.{InputValue}
use Rattle.language_values.proofs.ValueInduction.{value_induction}
use Rattle.language.proofs.Induction.{selection_induction}
use Rattle.meta.specs.declared.arguments.Argument.{Argument}
use Rattle.schema.specs.Catalog.{Catalog}
use Rattle.events.specs.Node.{Node, Placed, ObjectEntry, document, operation_definition, fragment_definition}
use Rattle.events.specs.Occurrence.{Occurrence, occurrences_of}
use Rattle.events.specs.Outline.{Outline, empty, entry, beside, each, if_there, each_if_there, outline_of_argument}
use Rattle.events.specs.Outline.{outline_of_arguments, outline_of_bare_value, outline_of_directive}
use Rattle.events.specs.Outline.{outline_of_directives, outline_of_object_field, outline_of_selection, outline_of_set}
use Rattle.events.specs.Outline.{outline_of_set_if_there, outline_of_value, outline_of_variable_definition}
use Rattle.events.specs.Outline.{outline_of_variable_definitions}
use Rattle.events.specs.SchemaView.{directive_arguments}
use Rattle.events.specs.Typing.{Typing, at_field, at_inline, at_items, at_set, at_variable}
use Rattle.events.proofs.SelectionOutlines.{of_field, of_inline, of_spread}
use Rattle.events.proofs.ValueOutlines.{of_enum, of_list, of_null, of_object, of_scalar, of_variable}

-- the whole document, or one of its definitions
abbrev pub is_top : {S : Type 0} → Node S → Bool
is_top (document doc) = true
is_top (operation_definition o) = true
is_top (fragment_definition f) = true
is_top _ = false

module _ {S C : Type 0} where
  abbrev pub IsWithin : Occurrence S C → Type 0
  IsWithin o = is_top o.node ≡ false

  -- no node of the outline is one of these
  abbrev pub Within : Outline S C → Type 0
  Within empty = Unit {0}
  Within (entry node types inside after) = (is_top node ≡ false) × Within inside × Within after

  pub within_beside : (a b : Outline S C) → Within a → Within b → Within (beside a b)
  within_beside empty b h k = k
  within_beside (entry node types inside after) b (e, h, h') k = (e, h, within_beside after b h' k)

  some : {X : Type 0} (P : X → Type 0) (f : X → Outline S C) → ((x : X) → P x → Within (f x)) → (xs : List X)
      → Each P xs → Within (each f xs)
  some P f h [] k = tt
  some P f h (x ∷ xs) (p, k) = within_beside (f x) (each f xs) (h x p) (some P f h xs k)

  all : {X : Type 0} (f : X → Outline S C) → ((x : X) → Within (f x)) → (xs : List X) → Within (each f xs)
  all f h [] = tt
  all f h (x ∷ xs) = within_beside (f x) (each f xs) (h x) (all f h xs)

  optional : {X : Type 0} (f : X → Outline S C) → ((x : X) → Within (f x)) → (o : Option X) → Within (if_there f o)
  optional f h None = tt
  optional f h (Some x) = h x

  optional_list : {X : Type 0} (f : X → Outline S C) → ((x : X) → Within (f x)) → (o : Option (Vec X Global)) → Within (each_if_there f o)
  optional_list f h None = tt
  optional_list f h (Some xs) = all f h xs.items

  both : (xs ys : List (Occurrence S C)) → Each IsWithin xs → Each IsWithin ys → Each IsWithin (xs ++ ys)
  both [] ys h k = k
  both (x ∷ xs) ys (p, h) k = (p, both xs ys h k)

  pub within_occurrences : (a : Outline S C) → Within a → Each IsWithin (occurrences_of a)
  within_occurrences empty h = tt
  within_occurrences (entry node types inside after) (e, h, h') =
      (e, both (occurrences_of inside) (occurrences_of after) (within_occurrences inside h) (within_occurrences after h'))

module _ {S C : Type 0} (schema : Catalog S C) where
  abbrev ValueWithin : InputValue S → Type 0
  ValueWithin v = (p : Span) (t : Typing S C) → Within (outline_of_bare_value schema v p t)

  value : (v : InputValue S) → ValueWithin v
  value =
      value_induction ValueWithin
      (λ p t. subst Within (sym (of_null schema p t)) (refl, tt, tt))
      (λ s p t. subst Within (sym (of_scalar schema s p t)) (refl, tt, tt))
      (λ s p t. subst Within (sym (of_enum schema s p t)) (refl, tt, tt))
      (λ s p t. subst Within (sym (of_variable schema s p t)) (refl, tt, tt))
      (λ xs h p t. subst Within (sym (of_list schema xs p t)) (
        refl,
        some (λ (x : Placed (InputValue S)). ValueWithin x.item) (outline_of_value schema (at_items t))
            (λ x k. k x.span (at_items t)) xs.items h,
        tt,
      ))
      (λ es h p t. subst Within (sym (of_object schema es p t)) (
        refl,
        some (λ (e : ObjectEntry S). ValueWithin e.1.item) (outline_of_object_field schema t)
            (λ e k. (refl, k e.1.span _, tt)) es.items h,
        tt,
      ))

  arguments : (known : Option (List (Argument S))) (t : Typing S C) (written : Option (Placed (Arguments S)))
      → Within (outline_of_arguments schema known t written)
  arguments known t written =
      optional _ (λ list. all (outline_of_argument schema known t)
      (λ a. (refl, value a.1.item a.1.span _, tt)) list.item.items.items) written

  pub within_directives : (t : Typing S C) (written : Option (Vec (Placed (Directive S)) Global))
      → Within (outline_of_directives schema t written)
  within_directives t written =
      optional_list (outline_of_directive schema t)
      (λ d. (refl, arguments (directive_arguments schema d.item.name.item.now) t d.item.arguments, tt)) written

  pub within_variables : (t : Typing S C) (written : Option (Placed (VariableDefinitions S)))
      → Within (outline_of_variable_definitions schema t written)
  within_variables t written =
      optional _ (λ list. all (outline_of_variable_definition schema t)
      (λ d. (
        refl,
        within_beside _ _ (optional (outline_of_value schema (at_variable t d.1))
            (λ v. value v.item v.span _) d.1.default_value) (within_directives (at_variable t d.1) d.1.directives),
        tt,
      ))
      list.item.items.items) written

  abbrev SelectionWithin : Selection S → Type 0
  SelectionWithin s = (t : Typing S C) → Within (outline_of_selection schema t s)

  set_of : (t : Typing S C) (set : List (Selection S)) → Each SelectionWithin set → Within (outline_of_set schema t set)
  set_of t set h = (refl, some SelectionWithin (outline_of_selection schema (at_set t)) (λ s k. k (at_set t)) set h, tt)

  set_if_there : (t : Typing S C) (set : Option (Vec (Selection S) Global)) → EachIfThere SelectionWithin set
      → Within (outline_of_set_if_there schema t set)
  set_if_there t None h = tt
  set_if_there t (Some set) h = set_of t set.items h

  selection : (s : Selection S) → SelectionWithin s
  selection =
      selection_induction SelectionWithin
      (λ f h t. let u = at_field schema t f.item in
      subst Within (sym (of_field schema t f)) (
        refl,
        within_beside _ _ (arguments _ u f.item.arguments)
            (within_beside _ _ (within_directives u f.item.directives) (set_if_there u f.item.selection_set h)),
        tt,
      ))
      (λ s t. subst Within (sym (of_spread schema t s)) (refl, within_directives t s.item.directives, tt))
      (λ i h t. let u = at_inline schema t i.item in
      subst Within (sym (of_inline schema t i))
      (refl, within_beside _ _ (within_directives u i.item.directives) (set_of u i.item.selection_set.items h), tt))

  pub within_set : (t : Typing S C) (set : List (Selection S)) → Within (outline_of_set schema t set)
  within_set t set = (refl, all (outline_of_selection schema (at_set t)) (λ s. selection s (at_set t)) set, tt)
