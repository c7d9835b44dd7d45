-- The occurrences of a document, by its definitions; no definition contains a document.
use Rattle.std.proofs.Common.{◌≡◌, List, [], ◌∷◌, ◌++◌, Option, Some, None, false, refl, ap, sym, ◌∙◌, subst, append_assoc}
use Rattle.std.specs.Prelude.{Vec}
use Rattle.std.specs.declared.alloc.Global.{Global}
use Rattle.std.specs.List.{flat_map}
use Rattle.std.proofs.lemmas.List.{append-nil}
use Rattle.language_values.specs.Each.{Each, EachIfThere}
use Rattle.language_types.specs.declared.position.Span.{Span}
use Rattle.language.specs.declared.tree.Arguments.{Arguments}
use Rattle.language.specs.declared.tree.Definition.{Definition}
use Rattle.language.specs.declared.tree.Definition.TheVariants as definition
use Rattle.language.specs.declared.tree.Directive.{Directive}
use Rattle.language.specs.declared.tree.Selection.{Selection}
use Rattle.language.specs.declared.tree.VariableDefinitions.{VariableDefinitions}
use Rattle.language_values.specs.declared.value.InputValue.{InputValue}
use Rattle.language_values.proofs.ValueInduction.{value_induction}
use Rattle.language.proofs.Induction.{selection_induction}
use Rattle.meta.specs.declared.arguments.Argument.{Argument}
use Rattle.schema.specs.Catalog.{Catalog}
use Rattle.events.specs.Node.{Node, Placed, ObjectEntry}
use Rattle.events.specs.SchemaView.{directive_arguments}
use Rattle.events.specs.Typing.{Typing, at_set, at_items, at_variable, at_field, at_inline, at_operation, at_fragment}
use Rattle.events.specs.Occurrence.{Occurrence, occurrences_of, occurrences, occurrences_in, is_document}
use Rattle.events.specs.Outline.{Outline, empty, entry, beside, each, if_there, each_if_there, outline_of_bare_value, outline_of_value, outline_of_object_field, outline_of_argument, outline_of_arguments, outline_of_directive, outline_of_directives, outline_of_variable_definition, outline_of_variable_definitions, outline_of_set, outline_of_set_if_there, outline_of_selection, outline_of_definition}
use Rattle.events.proofs.Everywhere.{Everywhere, everywhere_beside, everywhere_each, everywhere_all, everywhere_if_there, everywhere_each_if_there}
use Rattle.events.proofs.ValueOutlines.{of_null, of_scalar, of_enum, of_variable, of_list, of_object}
use Rattle.events.proofs.SelectionOutlines.{of_field, of_spread, of_inline}

each-append : {X : Type 0} (P : X → Type 0) (xs ys : List X) → Each P xs → Each P ys → Each P (xs ++ ys)
each-append P [] ys h k = k
each-append P (x ∷ xs) ys (p, h) k = (p, each-append P xs ys h k)

module _ {S C : Type 0} where
  pub occurrences-beside : (a b : Outline S C) → occurrences_of (beside a b) ≡ occurrences_of a ++ occurrences_of b
  occurrences-beside empty b = refl
  occurrences-beside (entry node types inside after) b =
      let first : Occurrence S C = record { node = node; types = types } in
      ap (λ z. first ∷ (occurrences_of inside ++ z)) (occurrences-beside after b)
      ∙ ap (λ z. first ∷ z) (sym (append_assoc (occurrences_of inside) (occurrences_of after) (occurrences_of b)))

  pub occurrences-each : {X : Type 0} (f : X → Outline S C) (xs : List X) → occurrences_of (each f xs) ≡ flat_map (λ x. occurrences_of (f x)) xs
  occurrences-each f [] = refl
  occurrences-each f (x ∷ xs) = occurrences-beside (f x) (each f xs) ∙ ap (λ z. occurrences_of (f x) ++ z) (occurrences-each f xs)

  -- the document itself, and then those of its definitions
  pub occurrences-document : (schema : Catalog S C) (t : Typing S C) (doc : List (Definition S)) → occurrences schema t doc ≡ record { node = Node.document doc; types = t } ∷ flat_map (occurrences_in schema t) doc
  occurrences-document schema t doc =
      let first : Occurrence S C = record { node = Node.document doc; types = t } in
      ap (λ z. first ∷ z) (append-nil (occurrences_of (each (outline_of_definition schema t) doc)) ∙ occurrences-each (outline_of_definition schema t) doc)

  abbrev pub IsNoDocument : Node S → Outline S C → Type 0
  IsNoDocument node inside = is_document node ≡ false

  -- no node of the outline is a document
  abbrev pub Inner : Outline S C → Type 0
  Inner = Everywhere IsNoDocument

  -- nor is one of its occurrences
  abbrev pub IsInner : Occurrence S C → Type 0
  IsInner o = is_document o.node ≡ false

  pub inner-occurrences : (a : Outline S C) → Inner a → Each IsInner (occurrences_of a)
  inner-occurrences empty h = tt
  inner-occurrences (entry node types inside after) (e, h, h') =
      (e, each-append IsInner (occurrences_of inside) (occurrences_of after) (inner-occurrences inside h) (inner-occurrences after h'))

module _ {S C : Type 0} (schema : Catalog S C) where
  abbrev InnerValue : InputValue S → Type 0
  InnerValue v = (p : Span) (t : Typing S C) → Inner (outline_of_bare_value schema v p t)

  inner-value : (v : InputValue S) → InnerValue v
  inner-value =
      value_induction InnerValue
      (λ p t. subst Inner (sym (of_null schema p t)) (refl, tt, tt))
      (λ s p t. subst Inner (sym (of_scalar schema s p t)) (refl, tt, tt))
      (λ s p t. subst Inner (sym (of_enum schema s p t)) (refl, tt, tt))
      (λ s p t. subst Inner (sym (of_variable schema s p t)) (refl, tt, tt))
      (λ xs h p t. subst Inner (sym (of_list schema xs p t)) (refl, everywhere_each IsNoDocument (λ (x : Placed (InputValue S)). InnerValue x.item) (outline_of_value schema (at_items t)) (λ x k. k x.span (at_items t)) xs.items h, tt))
      (λ es h p t. subst Inner (sym (of_object schema es p t)) (refl, everywhere_each IsNoDocument (λ (e : ObjectEntry S). InnerValue e.1.item) (outline_of_object_field schema t) (λ e k. (refl, k e.1.span _, tt)) es.items h, tt))

  inner-arguments : (arguments : Option (List (Argument S))) (t : Typing S C) (written : Option (Placed (Arguments S))) → Inner (outline_of_arguments schema arguments t written)
  inner-arguments arguments t written =
      everywhere_if_there IsNoDocument _ (λ list. everywhere_all IsNoDocument (outline_of_argument schema arguments t) (λ a. (refl, inner-value a.1.item a.1.span _, tt)) list.item.items.items) written

  inner-directives : (t : Typing S C) (written : Option (Vec (Placed (Directive S)) Global)) → Inner (outline_of_directives schema t written)
  inner-directives t written =
      everywhere_each_if_there IsNoDocument (outline_of_directive schema t) (λ d. (refl, inner-arguments (directive_arguments schema d.item.name.item.now) t d.item.arguments, tt)) written

  inner-variables : (t : Typing S C) (written : Option (Placed (VariableDefinitions S))) → Inner (outline_of_variable_definitions schema t written)
  inner-variables t written =
      everywhere_if_there IsNoDocument _ (λ list. everywhere_all IsNoDocument (outline_of_variable_definition schema t) (λ d. (refl, everywhere_beside IsNoDocument _ _ (everywhere_if_there IsNoDocument (outline_of_value schema (at_variable t d.1)) (λ v. inner-value v.item v.span _) d.1.default_value) (inner-directives (at_variable t d.1) d.1.directives), tt)) list.item.items.items) written

  abbrev InnerSelection : Selection S → Type 0
  InnerSelection s = (t : Typing S C) → Inner (outline_of_selection schema t s)

  inner-set_of : (t : Typing S C) (set : List (Selection S)) → Each InnerSelection set → Inner (outline_of_set schema t set)
  inner-set_of t set h = (refl, everywhere_each IsNoDocument InnerSelection (outline_of_selection schema (at_set t)) (λ s k. k (at_set t)) set h, tt)

  inner-set_if_there : (t : Typing S C) (set : Option (Vec (Selection S) Global)) → EachIfThere InnerSelection set → Inner (outline_of_set_if_there schema t set)
  inner-set_if_there t None h = tt
  inner-set_if_there t (Some set) h = inner-set_of t set.items h

  inner-selection : (s : Selection S) → InnerSelection s
  inner-selection =
      selection_induction InnerSelection
      (λ f h t. let u = at_field schema t f.item in subst Inner (sym (of_field schema t f)) (refl, everywhere_beside IsNoDocument _ _ (inner-arguments _ u f.item.arguments) (everywhere_beside IsNoDocument _ _ (inner-directives u f.item.directives) (inner-set_if_there u f.item.selection_set h)), tt))
      (λ s t. subst Inner (sym (of_spread schema t s)) (refl, inner-directives t s.item.directives, tt))
      (λ i h t. let u = at_inline schema t i.item in subst Inner (sym (of_inline schema t i)) (refl, everywhere_beside IsNoDocument _ _ (inner-directives u i.item.directives) (inner-set_of u i.item.selection_set.items h), tt))

  inner-set : (t : Typing S C) (set : List (Selection S)) → Inner (outline_of_set schema t set)
  inner-set t set = (refl, everywhere_all IsNoDocument (outline_of_selection schema (at_set t)) (λ s. inner-selection s (at_set t)) set, tt)

  inner-definition : (t : Typing S C) (d : Definition S) → Inner (outline_of_definition schema t d)
  inner-definition t (definition.Operation o) =
      let u = at_operation schema t o.item in
      (refl, everywhere_beside IsNoDocument _ _ (inner-variables u o.item.variable_definitions) (everywhere_beside IsNoDocument _ _ (inner-directives u o.item.directives) (inner-set u o.item.selection_set.items)), tt)
  inner-definition t (definition.Fragment f) =
      let u = at_fragment schema t f.item in
      (refl, everywhere_beside IsNoDocument _ _ (inner-directives u f.item.directives) (inner-set u f.item.selection_set.items), tt)

  -- no definition of a document contains a document
  pub inner-document : (t : Typing S C) (doc : List (Definition S)) → Inner (each (outline_of_definition schema t) doc)
  inner-document t doc = everywhere_all IsNoDocument (outline_of_definition schema t) (inner-definition t) doc
