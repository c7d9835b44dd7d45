-- Values of arguments in a document where no object repeats a key.
use Rattle.std.proofs.Common.{◌≡◌, List, [], ◌∷◌, ◌++◌, Option, None, Some, Bool, true, ◌&&◌, map, refl, ap, sym, subst, ◌∙◌, inl, inr, arith, string_bytes, String}
use Rattle.std.specs.Prelude.{Vec}
use Rattle.std.specs.declared.alloc.Global.{Global}
use Rattle.std.specs.List.{Contains, flat_map, list_all}
use Rattle.std.proofs.lemmas.Grind.{flat_map-append}
use Rattle.std.proofs.lemmas.List.Elements.{Contains-append_cases, Contains-push_cases}
use Rattle.std.proofs.lemmas.List.Folds.{list_all-map}
use Rattle.std.proofs.lemmas.Simd.{map-map}
use Rattle.language_values.specs.Each.{Each, EachIfThere}
use Rattle.language_values.specs.ValuesEqual.{are_distinct, has_unique_keys, unique_step}
use Rattle.language_types.specs.declared.position.Span.{Span}
use Rattle.language.specs.declared.tree.Arguments.{Arguments}
use Rattle.language.specs.declared.tree.Definition.{Definition}
use Rattle.language.specs.declared.tree.Definition.TheVariants as definition
use Rattle.language.specs.declared.tree.Directive.{Directive}
use Rattle.language.specs.declared.tree.Selection.{Selection}
use Rattle.language.specs.declared.tree.VariableDefinitions.{VariableDefinitions}
use Rattle.language_values.specs.declared.value.InputValue.{InputValue, fold-roll-InputValue}
use Rattle.language_values.specs.declared.value.InputValue.TheVariants as v
use Rattle.language_values.specs.declared.value.InputValue.TheOpen as opened
use Rattle.language_values.proofs.ValueInduction.{value_induction}
use Rattle.language.proofs.Induction.{selection_induction}
use Rattle.meta.specs.declared.arguments.Argument.{Argument}
use Rattle.schema.specs.Catalog.{Catalog}
use Rattle.events.specs.Node.{Node, Placed, ArgumentEntry, ObjectEntry}
use Rattle.events.specs.Node as node
use Rattle.events.specs.SchemaView.{directive_arguments, field_arguments}
use Rattle.events.specs.Typing.{Typing, at_set, at_items, at_argument, at_object_field, at_variable, at_field, at_inline, at_operation, at_fragment}
use Rattle.events.specs.Occurrence.{Occurrence, occurrences_of}
use Rattle.events.specs.Outline.{Outline, empty, entry, beside, each, if_there, each_if_there, outline_of_bare_value, outline_of_value, outline_of_object_field, outline_of_argument, outline_of_arguments, outline_of_directive, outline_of_directives, outline_of_variable_definition, outline_of_variable_definitions, outline_of_set, outline_of_set_if_there, outline_of_selection, outline_of_definition, outline_of_document}
use Rattle.events.proofs.Occurrences.{occurrences-beside}
use Rattle.events.proofs.ValueOutlines.{of_null, of_scalar, of_enum, of_variable, of_list, of_object}
use Rattle.events.proofs.SelectionOutlines.{of_field, of_spread, of_inline}
use Rattle.walk.specs.ErrorValue.{ErrorValue}
use Rattle.rules_arguments.specs.UniqueInputFieldNames.{repeated_in_object, repeated_key_message}
use Rattle.rules_first_stage.specs.CleanStage.{arguments_of, keys_of, listed_arguments}
use Rattle.rules_support.specs.RepeatsLaws.{none_repeat_of}
use Rattle.rules_first_stage.proofs.Distinct.{left_none, right_none}

both_true : (b c : Bool) → b ≡ true → c ≡ true → (b && c) ≡ true
both_true b c e f = ap (λ z. z && c) e ∙ f

each_at : {X : Type 0} (P : X → Type 0) (xs : List X) → Each P xs → (x : X) → Contains xs x → P x
each_at P [] h x c = absurd (omega (arith, c.1))
each_at P (y ∷ xs) (p, h) x c = elim (Contains-append_cases (y ∷ []) xs x c) [
  | inl first ↦ elim (Contains-push_cases [] y x first) [ inl none ↦ absurd (omega (arith, none.1)) | inr e ↦ subst P e p ]
  | inr rest ↦ each_at P xs h x rest
]

unique_null : (S : Type 0) → has_unique_keys {S = S} v.Null ≡ true
unique_null S = ap has_unique_keys (sym v.rolls-Null) ∙ fold-roll-InputValue S Bool unique_step opened.Null

unique_enum : (S : Type 0) (s : String Global) → has_unique_keys {S = S} (v.Enum s) ≡ true
unique_enum S s = ap has_unique_keys (sym (v.rolls-Enum s)) ∙ fold-roll-InputValue S Bool unique_step (opened.Enum s)

unique_variable : (S : Type 0) (s : String Global) → has_unique_keys {S = S} (v.Variable s) ≡ true
unique_variable S s = ap has_unique_keys (sym (v.rolls-Variable s)) ∙ fold-roll-InputValue S Bool unique_step (opened.Variable s)

module _ {S : Type 0} where
  distinct_keys : (w : Placed (List (ObjectEntry S))) → repeated_in_object (node.object_value w) ≡ [] → are_distinct (keys_of w.item) ≡ true
  distinct_keys w e = (none_repeat_of repeated_key_message w.item).0 e

  unique_scalar : (s : S) → has_unique_keys (v.Scalar s) ≡ true
  unique_scalar s = ap has_unique_keys (sym (v.rolls-Scalar s)) ∙ fold-roll-InputValue S Bool unique_step (opened.Scalar s)

  unique_list : (xs : Vec (Placed (InputValue S)) Global) → has_unique_keys (v.List xs) ≡ list_all (λ x. has_unique_keys x.item) xs.items
  unique_list xs =
      ap has_unique_keys (sym (v.rolls-List xs))
      ∙ fold-roll-InputValue S Bool unique_step (opened.List xs)
      ∙ list_all-map (λ x. x.item) _ xs.items

  abbrev unique_entry : ObjectEntry S → Placed (String Global) × Placed Bool
  unique_entry e = (e.0, record { item = has_unique_keys e.1.item; span = e.1.span })

  unique_object : (es : Vec (ObjectEntry S) Global) → has_unique_keys (v.Object es) ≡ (are_distinct (keys_of es.items) && list_all (λ e. has_unique_keys e.1.item) es.items)
  unique_object es =
      ap has_unique_keys (sym (v.rolls-Object es))
      ∙ fold-roll-InputValue S Bool unique_step (opened.Object es)
      ∙ ap (λ ks. are_distinct ks && list_all (λ e. e.1.item) (map unique_entry es.items)) (map-map (λ e. string_bytes e.0.item) unique_entry es.items)
      ∙ ap (λ b. are_distinct (keys_of es.items) && b) (list_all-map (λ e. e.1.item) unique_entry es.items)

module _ {S C : Type 0} where
  -- no object of the outline repeats a key
  abbrev pub NoRepeats : Outline S C → Type 0
  NoRepeats a = flat_map (λ (o : Occurrence S C). repeated_in_object o.node) (occurrences_of a) ≡ []

  abbrev finds : List (Occurrence S C) → List ErrorValue
  finds os = flat_map (λ (o : Occurrence S C). repeated_in_object o.node) os

  two_parts : (xs ys : List (Occurrence S C)) → finds (xs ++ ys) ≡ [] → (finds xs ≡ []) × (finds ys ≡ [])
  two_parts xs ys e =
      let both = sym (flat_map-append (λ (o : Occurrence S C). repeated_in_object o.node) xs ys) ∙ e in
      (left_none (finds xs) (finds ys) both, right_none (finds xs) (finds ys) both)

  parts_beside : (a b : Outline S C) → NoRepeats (beside a b) → NoRepeats a × NoRepeats b
  parts_beside a b e = two_parts (occurrences_of a) (occurrences_of b) (ap finds (sym (occurrences-beside a b)) ∙ e)

  parts_entry : (n : Node S) (t : Typing S C) (inside after : Outline S C) → NoRepeats (entry n t inside after) → (repeated_in_object n ≡ []) × NoRepeats inside × NoRepeats after
  parts_entry n t inside after e =
      let rest = occurrences_of inside ++ occurrences_of after in
      let below = two_parts (occurrences_of inside) (occurrences_of after) (right_none (repeated_in_object n) (finds rest) e) in
      (left_none (repeated_in_object n) (finds rest) e, below.0, below.1)

  parts_each : {X : Type 0} (f : X → Outline S C) (xs : List X) → NoRepeats (each f xs) → Each (λ x. NoRepeats (f x)) xs
  parts_each f [] e = tt
  parts_each f (x ∷ xs) e = let both = parts_beside (f x) (each f xs) e in (both.0, parts_each f xs both.1)

module _ {S C : Type 0} (schema : Catalog S C) where
  abbrev UniqueValue : InputValue S → Type 0
  UniqueValue w = (p : Span) (t : Typing S C) → NoRepeats (outline_of_bare_value schema w p t) → has_unique_keys w ≡ true

  all_items : (t : Typing S C) (xs : List (Placed (InputValue S))) → Each (λ x. UniqueValue x.item) xs → Each (λ x. NoRepeats (outline_of_value schema t x)) xs → list_all (λ x. has_unique_keys x.item) xs ≡ true
  all_items t [] h k = refl
  all_items t (x ∷ xs) (p, h) (e, k) = both_true (has_unique_keys x.item) (list_all (λ y. has_unique_keys y.item) xs) (p x.span t e) (all_items t xs h k)

  all_entries : (t : Typing S C) (es : List (ObjectEntry S)) → Each (λ e. UniqueValue e.1.item) es → Each (λ e. NoRepeats (outline_of_object_field schema t e)) es → list_all (λ e. has_unique_keys e.1.item) es ≡ true
  all_entries t [] h k = refl
  all_entries t (x ∷ es) (p, h) (e, k) =
      let u = at_object_field schema t (string_bytes x.0.item) in
      both_true (has_unique_keys x.1.item) (list_all (λ y. has_unique_keys y.1.item) es) (p x.1.span u (parts_entry (node.object_field x) u (outline_of_value schema u x.1) empty e).1) (all_entries t es h k)

  pub unique_value : (w : InputValue S) → UniqueValue w
  unique_value =
      value_induction UniqueValue
      (λ p t e. unique_null S)
      (λ s p t e. unique_scalar s)
      (λ s p t e. unique_enum S s)
      (λ s p t e. unique_variable S s)
      (λ xs h p t e.
      let parts = parts_entry (node.list_value (record { item = xs.items; span = p })) t (each (outline_of_value schema (at_items t)) xs.items) empty (subst NoRepeats (of_list schema xs p t) e) in
      unique_list xs ∙ all_items (at_items t) xs.items h (parts_each (outline_of_value schema (at_items t)) xs.items parts.1))
      (λ es h p t e.
      let here : Placed (List (ObjectEntry S)) = record { item = es.items; span = p } in
      let parts = parts_entry (node.object_value here) t (each (outline_of_object_field schema t) es.items) empty (subst NoRepeats (of_object schema es p t) e) in
      unique_object es
      ∙ both_true (are_distinct (keys_of es.items)) (list_all (λ y. has_unique_keys y.1.item) es.items) (distinct_keys here parts.0)
      (all_entries t es.items h (parts_each (outline_of_object_field schema t) es.items parts.1)))

  -- arguments that were written stand first in what stands in a node
  abbrev HasArguments : Option (Placed (Arguments S)) → Outline S C → Type 0
  HasArguments written inside =
      (known : Option (List (Argument S))) × (u : Typing S C) × (rest : Outline S C) × (inside ≡ beside (outline_of_arguments schema known u written) rest)

  abbrev ArgumentsInside : Node S → Outline S C → Type 0
  ArgumentsInside (node.field f) inside = HasArguments f.item.arguments inside
  ArgumentsInside (node.directive d) inside = HasArguments d.item.arguments inside
  ArgumentsInside _ inside = Unit {0}

  -- so it is at each node of the outline
  abbrev Whole : Outline S C → Type 0
  Whole empty = Unit {0}
  Whole (entry n types inside after) = ArgumentsInside n inside × Whole inside × Whole after

  whole-beside : (a b : Outline S C) → Whole a → Whole b → Whole (beside a b)
  whole-beside empty b h k = k
  whole-beside (entry n types inside after) b (e, h, h') k = (e, h, whole-beside after b h' k)

  whole-each : {X : Type 0} (P : X → Type 0) (f : X → Outline S C) → ((x : X) → P x → Whole (f x)) → (xs : List X) → Each P xs → Whole (each f xs)
  whole-each P f h [] k = tt
  whole-each P f h (x ∷ xs) (p, k) = whole-beside (f x) (each f xs) (h x p) (whole-each P f h xs k)

  whole-all : {X : Type 0} (f : X → Outline S C) → ((x : X) → Whole (f x)) → (xs : List X) → Whole (each f xs)
  whole-all f h [] = tt
  whole-all f h (x ∷ xs) = whole-beside (f x) (each f xs) (h x) (whole-all f h xs)

  whole-if_there : {X : Type 0} (f : X → Outline S C) → ((x : X) → Whole (f x)) → (o : Option X) → Whole (if_there f o)
  whole-if_there f h None = tt
  whole-if_there f h (Some x) = h x

  whole-each_if_there : {X : Type 0} (f : X → Outline S C) → ((x : X) → Whole (f x)) → (o : Option (Vec X Global)) → Whole (each_if_there f o)
  whole-each_if_there f h None = tt
  whole-each_if_there f h (Some xs) = whole-all f h xs.items

  abbrev WholeValue : InputValue S → Type 0
  WholeValue w = (p : Span) (t : Typing S C) → Whole (outline_of_bare_value schema w p t)

  whole-value : (w : InputValue S) → WholeValue w
  whole-value =
      value_induction WholeValue
      (λ p t. subst Whole (sym (of_null schema p t)) (tt, tt, tt))
      (λ s p t. subst Whole (sym (of_scalar schema s p t)) (tt, tt, tt))
      (λ s p t. subst Whole (sym (of_enum schema s p t)) (tt, tt, tt))
      (λ s p t. subst Whole (sym (of_variable schema s p t)) (tt, tt, tt))
      (λ xs h p t. subst Whole (sym (of_list schema xs p t)) (tt, whole-each (λ (x : Placed (InputValue S)). WholeValue x.item) (outline_of_value schema (at_items t)) (λ x k. k x.span (at_items t)) xs.items h, tt))
      (λ es h p t. subst Whole (sym (of_object schema es p t)) (tt, whole-each (λ (e : ObjectEntry S). WholeValue e.1.item) (outline_of_object_field schema t) (λ e k. (tt, k e.1.span _, tt)) es.items h, tt))

  whole-arguments : (known : Option (List (Argument S))) (t : Typing S C) (written : Option (Placed (Arguments S))) → Whole (outline_of_arguments schema known t written)
  whole-arguments known t written =
      whole-if_there _ (λ list. whole-all (outline_of_argument schema known t) (λ a. (tt, whole-value a.1.item a.1.span _, tt)) list.item.items.items) written

  beside-empty : (a : Outline S C) → a ≡ beside a empty
  beside-empty empty = refl
  beside-empty (entry n types inside after) = ap (λ z. entry n types inside z) (beside-empty after)

  whole-directives : (t : Typing S C) (written : Option (Vec (Placed (Directive S)) Global)) → Whole (outline_of_directives schema t written)
  whole-directives t written =
      whole-each_if_there (outline_of_directive schema t)
      (λ d.
      let known = directive_arguments schema d.item.name.item.now in
      ((known, t, empty, beside-empty (outline_of_arguments schema known t d.item.arguments)), whole-arguments known t d.item.arguments, tt)) written

  whole-variables : (t : Typing S C) (written : Option (Placed (VariableDefinitions S))) → Whole (outline_of_variable_definitions schema t written)
  whole-variables t written =
      whole-if_there _ (λ list. whole-all (outline_of_variable_definition schema t) (λ d. (tt, whole-beside _ _ (whole-if_there (outline_of_value schema (at_variable t d.1)) (λ w. whole-value w.item w.span _) d.1.default_value) (whole-directives (at_variable t d.1) d.1.directives), tt)) list.item.items.items) written

  abbrev WholeSelection : Selection S → Type 0
  WholeSelection s = (t : Typing S C) → Whole (outline_of_selection schema t s)

  whole-set_of : (t : Typing S C) (set : List (Selection S)) → Each WholeSelection set → Whole (outline_of_set schema t set)
  whole-set_of t set h = (tt, whole-each WholeSelection (outline_of_selection schema (at_set t)) (λ s k. k (at_set t)) set h, tt)

  whole-set_if_there : (t : Typing S C) (set : Option (Vec (Selection S) Global)) → EachIfThere WholeSelection set → Whole (outline_of_set_if_there schema t set)
  whole-set_if_there t None h = tt
  whole-set_if_there t (Some set) h = whole-set_of t set.items h

  whole-selection : (s : Selection S) → WholeSelection s
  whole-selection =
      selection_induction WholeSelection
      (λ f h t. let u = at_field schema t f.item in subst Whole (sym (of_field schema t f)) ((field_arguments u.parent f.item.name.item.now, u, _, refl), whole-beside _ _ (whole-arguments _ u f.item.arguments) (whole-beside _ _ (whole-directives u f.item.directives) (whole-set_if_there u f.item.selection_set h)), tt))
      (λ s t. subst Whole (sym (of_spread schema t s)) (tt, whole-directives t s.item.directives, tt))
      (λ i h t. let u = at_inline schema t i.item in subst Whole (sym (of_inline schema t i)) (tt, whole-beside _ _ (whole-directives u i.item.directives) (whole-set_of u i.item.selection_set.items h), tt))

  whole-set : (t : Typing S C) (set : List (Selection S)) → Whole (outline_of_set schema t set)
  whole-set t set = (tt, whole-all (outline_of_selection schema (at_set t)) (λ s. whole-selection s (at_set t)) set, tt)

  whole-definition : (t : Typing S C) (d : Definition S) → Whole (outline_of_definition schema t d)
  whole-definition t (definition.Operation o) =
      let u = at_operation schema t o.item in
      (tt, whole-beside _ _ (whole-variables u o.item.variable_definitions) (whole-beside _ _ (whole-directives u o.item.directives) (whole-set u o.item.selection_set.items)), tt)
  whole-definition t (definition.Fragment f) =
      let u = at_fragment schema t f.item in
      (tt, whole-beside _ _ (whole-directives u f.item.directives) (whole-set u f.item.selection_set.items), tt)

  pub whole-document : (t : Typing S C) (doc : List (Definition S)) → Whole (outline_of_document schema t doc)
  whole-document t doc = (tt, whole-all (outline_of_definition schema t) (whole-definition t) doc, tt)

  -- the value of an argument that stands in a node
  unique_written : (written : Option (Placed (Arguments S))) (inside : Outline S C) → HasArguments written inside → NoRepeats inside → (a : ArgumentEntry S) → Contains (listed_arguments written) a → has_unique_keys a.1.item ≡ true
  unique_written None inside h e a c = absurd (omega (arith, c.1))
  unique_written (Some list) inside (known, u, rest, is) e a c =
      let all = parts_beside (outline_of_arguments schema known u (Some list)) rest (subst NoRepeats is e) in
      let here = each_at (λ (x : ArgumentEntry S). NoRepeats (outline_of_argument schema known u x)) list.item.items.items (parts_each (outline_of_argument schema known u) list.item.items.items all.0) a c in
      let w = at_argument known u a.0.item.now in
      unique_value a.1.item a.1.span w (parts_entry (node.argument a) w (outline_of_value schema w a.1) empty here).1

  unique_in_node : (n : Node S) (inside : Outline S C) → ArgumentsInside n inside → NoRepeats inside → (a : ArgumentEntry S) → Contains (arguments_of n) a → has_unique_keys a.1.item ≡ true
  unique_in_node (node.field f) inside h e a c = unique_written f.item.arguments inside h e a c
  unique_in_node (node.directive d) inside h e a c = unique_written d.item.arguments inside h e a c
  unique_in_node _ inside h e a c = absurd (omega (arith, c.1))

  pub unique_arguments : (b : Outline S C) → Whole b → NoRepeats b → (o : Occurrence S C) → Contains (occurrences_of b) o → (a : ArgumentEntry S) → Contains (arguments_of o.node) a → has_unique_keys a.1.item ≡ true
  unique_arguments empty h e o c a d = absurd (omega (arith, c.1))
  unique_arguments (entry n types inside after) (here, h, k) e o c a d =
      let first : Occurrence S C = record { node = n; types = types } in
      let parts = parts_entry n types inside after e in
      elim (Contains-append_cases (first ∷ []) (occurrences_of inside ++ occurrences_of after) o c) [
        | inl one ↦ elim (Contains-push_cases [] first o one) [
          | inl none ↦ absurd (omega (arith, none.1))
          | inr same ↦ unique_in_node n inside here parts.1 a (subst (λ (q : Occurrence S C). Contains (arguments_of q.node) a) (sym same) d)
        ]
        | inr more ↦ elim (Contains-append_cases (occurrences_of inside) (occurrences_of after) o more) [
          | inl below ↦ unique_arguments inside h parts.1 o below a d
          | inr later ↦ unique_arguments after k parts.2 o later a d
        ]
      ]
