-- What stands in a document: its definitions and their variables.
use Rattle.std.proofs.Common.{◌≡◌, ℕ, List, [], ◌∷◌, ◌++◌, Option, None, Some, map, refl, ap, sym, subst, ◌∙◌, inl, inr, Bool, true, false, ◌||◌, ◌⊎◌, zero, suc, slice_get, arith}
use Rattle.std.specs.List.{Contains, flat_map}
use Rattle.std.specs.Option.{option_map}
use Rattle.std.specs.Str.{bytes_eq}
use Rattle.std.proofs.lemmas.Bool.{true≢false}
use Rattle.std.proofs.lemmas.Grind.{flat_map-append}
use Rattle.std.proofs.lemmas.List.{map-append}
use Rattle.std.proofs.lemmas.List.Elements.{Contains-append_left, Contains-append_right}
use Rattle.std.proofs.lemmas.Slice.Eq.{bytes_eq-Decides}
use Rattle.language_types.specs.declared.position.SourcePosition.{SourcePosition}
use Rattle.language.specs.declared.tree.Definition.{Definition}
use Rattle.language.specs.declared.tree.Definition.TheVariants as definition
use Rattle.language.specs.declared.tree.Operation.{Operation}
use Rattle.language.specs.declared.tree.VariableDefinitions.{VariableDefinitions}
use Rattle.schema.specs.Catalog.{Catalog}
use Rattle.events.specs.Node.{Node, Name, Placed, VariableEntry, operation_definition, variable_definition}
use Rattle.events.specs.Occurrence.{Occurrence, occurrences, occurrences_in, occurrences_of}
use Rattle.events.specs.Outline.{Outline, beside, outline_of_directives, outline_of_set, outline_of_variable_definition, outline_of_variable_definitions}
use Rattle.events.specs.Typing.{Typing, at_operation, at_variable}
use Rattle.events.proofs.Occurrences.{occurrences-beside, occurrences-document, occurrences-each}
use Rattle.walk.specs.Names as names
use Rattle.rules_operations.specs.UniqueOperationNames.{operation_name}
use Rattle.rules_fragments.specs.UniqueFragmentNames.{fragment_name}
use Rattle.rules_support.specs.Names.{Named}
use Rattle.rules_support.specs.Noting.{to_list}
use Rattle.fragment_graph.specs.Numbers.{Defines}
use Rattle.fragment_graph.proofs.Lists.{none_some, same_some, contains_get}
use Rattle.variable_values.specs.Inputs.{definitions_in, definitions_of}
use Rattle.rules_first_stage.specs.CleanStage.{Occurs, name_of_operation, operation_names}
use Rattle.rules_first_stage.proofs.Distinct.{Within, empty, keep, within_append, within_none}

-- what stands in what one of the list gives stands in what all give
flat_at : {X Y : Type 0} (f : X → List Y) (xs : List X) (k : ℕ) (x : X) (y : Y) → slice_get xs k ≡ Some x → Contains (f x) y → Contains (flat_map f xs) y
flat_at f [] k x y e c = absurd (none_some x e)
flat_at f (z ∷ xs) zero x y e c = Contains-append_left (f z) (flat_map f xs) y (subst (λ w. Contains (f w) y) (sym (same_some z x e)) c)
flat_at f (z ∷ xs) (suc k) x y e c = Contains-append_right (f z) (flat_map f xs) y (flat_at f xs k x y e c)

contains_flat : {X Y : Type 0} (f : X → List Y) (xs : List X) (x : X) (y : Y) → Contains xs x → Contains (f x) y → Contains (flat_map f xs) y
contains_flat f xs x y c d = let (k, e) = contains_get xs x c in flat_at f xs k x y e d

module _ {S C : Type 0} (schema : Catalog S C) (t : Typing S C) (doc : List (Definition S)) where
  -- the occurrences of a definition are among those of the document
  in_document : (d : Definition S) → Contains doc d → (o : Occurrence S C) → Contains (occurrences_in schema t d) o → Contains (occurrences schema t doc) o
  in_document d c o h =
      subst (λ os. Contains os o) (sym (occurrences-document schema t doc))
      (Contains-append_right (record { node = Node.document doc; types = t } ∷ []) (flat_map (occurrences_in schema t) doc) o (contains_flat (occurrences_in schema t) doc d o c h))

  pub operation_occurs : (o : Placed (Operation S)) → Contains doc (definition.Operation o) → Occurs schema t doc (operation_definition o)
  operation_occurs o c =
      let at : Occurrence S C = record { node = operation_definition o; types = at_operation schema t o.item } in
      (at, in_document (definition.Operation o) c at (0, omega arith, refl), refl)

  listed : (u : Typing S C) (written : Option (Placed (VariableDefinitions S))) (v : VariableEntry S) → Contains (definitions_in written) v
      → (o : Occurrence S C) × Contains (occurrences_of (outline_of_variable_definitions schema u written)) o × (o.node ≡ variable_definition v)
  listed u None v c = absurd (omega (arith, c.1))
  listed u (Some list) v c =
      let items = list.item.items.items in
      let at : Occurrence S C = record { node = variable_definition v; types = at_variable u v.1 } in (
        at,
        subst (λ os. Contains os at) (sym (occurrences-each (outline_of_variable_definition schema u) items))
            (contains_flat (λ (x : VariableEntry S). occurrences_of (outline_of_variable_definition schema u x)) items v at c (0, omega arith, refl)),
        refl,
      )

  pub variable_occurs : (o : Placed (Operation S)) → Contains doc (definition.Operation o) → (v : VariableEntry S) → Contains (definitions_of o.item) v → Occurs schema t doc (variable_definition v)
  variable_occurs o c v h =
      let u = at_operation schema t o.item in
      let root : Occurrence S C = record { node = operation_definition o; types = u } in
      let definitions : Outline S C = outline_of_variable_definitions schema u o.item.variable_definitions in
      let more : Outline S C = beside (outline_of_directives schema u o.item.directives) (outline_of_set schema u o.item.selection_set.items) in
      let (at, there, same) = listed u o.item.variable_definitions v h in
      let inside : Contains (occurrences_of (beside definitions more)) at =
      subst (λ os. Contains os at) (sym (occurrences-beside definitions more)) (Contains-append_left (occurrences_of definitions) (occurrences_of more) at there) in (
        at,
        in_document (definition.Operation o) c at
            (Contains-append_right (root ∷ []) (occurrences_of (beside definitions more) ++ []) at (Contains-append_left (occurrences_of (beside definitions more)) [] at inside)),
        same,
      )

  -- names that definitions give, within those that their occurrences give
  module _ (name : Node S → Option Named) (given : Definition S → List (List ℕ)) where
    abbrev at : Occurrence S C → List Named
    at o = to_list (name o.node)

    abbrev Gives : Type 0
    Gives = (d : Definition S) → Within (given d) (map (λ n. n.0) (flat_map at (occurrences_in schema t d)))

    in_all : Gives → (ds : List (Definition S)) → Within (flat_map given ds) (map (λ n. n.0) (flat_map at (flat_map (occurrences_in schema t) ds)))
    in_all here [] = empty
    in_all here (d ∷ ds) =
        subst (λ zs. Within (given d ++ flat_map given ds) zs)
        (sym (ap (map (λ n. n.0)) (flat_map-append at (occurrences_in schema t d) (flat_map (occurrences_in schema t) ds))
        ∙ map-append (λ n. n.0) (flat_map at (occurrences_in schema t d)) (flat_map at (flat_map (occurrences_in schema t) ds))))
        (within_append (here d) (in_all here ds))

    whole : Gives → name (Node.document doc) ≡ None → Within (flat_map given doc) (map (λ n. n.0) (flat_map at (occurrences schema t doc)))
    whole here none =
        subst (λ zs. Within (flat_map given doc) (map (λ n. n.0) zs))
        (sym (ap (flat_map at) (occurrences-document schema t doc) ∙ ap (λ o. to_list o ++ flat_map at (flat_map (occurrences_in schema t) doc)) none))
        (in_all here doc)

  named : (o : Option Name) (place : SourcePosition) (rest : List Named) → Within (to_list (option_map (λ n. n.item.now) o)) (map (λ n. n.0) (to_list (option_map (λ n. (n.item.now, place)) o) ++ rest))
  named None place rest = within_none (map (λ n. n.0) rest)
  named (Some n) place rest = keep (within_none (map (λ n. n.0) rest))

  operations_here : Gives operation_name name_of_operation
  operations_here (definition.Operation o) = named o.item.name o.span.start _
  operations_here (definition.Fragment f) = within_none _

  fragments_here : Gives fragment_name names.fragment_name
  fragments_here (definition.Operation o) = within_none _
  fragments_here (definition.Fragment f) = keep (within_none _)

  -- the names at the occurrences, with their places
  abbrev pub names_at : (Node S → Option Named) → List Named
  names_at name = flat_map (λ (o : Occurrence S C). to_list (name o.node)) (occurrences schema t doc)

  pub operations_within : Within (operation_names doc) (map (λ n. n.0) (names_at operation_name))
  operations_within = whole operation_name name_of_operation operations_here refl

  pub fragments_within : Within (names.fragment_names doc) (map (λ n. n.0) (names_at fragment_name))
  fragments_within = whole fragment_name names.fragment_name fragments_here refl

or_cases : (b c : Bool) → (b || c) ≡ true → (b ≡ true) ⊎ (c ≡ true)
or_cases true c e = inl refl
or_cases false c e = inr e

-- a name that is among those of the fragments is that of some definition
pub defined : {S : Type 0} (name : List ℕ) (ds : List (Definition S)) → names.is_among (names.fragment_names ds) name ≡ true → Defines ds name
defined name [] e = absurd (true≢false (sym e))
defined name (definition.Operation o ∷ ds) e =
    let (d, c, n) = defined name ds e in (d, Contains-append_right (definition.Operation o ∷ []) ds d c, n)
defined name (definition.Fragment f ∷ ds) e = elim (or_cases (bytes_eq f.item.name.item.now name) (names.is_among (names.fragment_names ds) name) e) [
  | inl same ↦ (definition.Fragment f, (0, omega arith, refl), (bytes_eq-Decides f.item.name.item.now name).0 same)
  | inr more ↦ let (d, c, n) = defined name ds more in (d, Contains-append_right (definition.Fragment f ∷ []) ds d c, n)
]
