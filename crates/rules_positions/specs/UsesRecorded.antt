-- What is recorded of a document is, definition by definition, its uses. In specs/, since the laws of the rules cite it.
use Rattle.std.proofs.Common.{◌≡◌, List, [], ◌∷◌, ◌++◌, false, refl, ap, sym, ◌∙◌, subst, append_assoc, map}
use Rattle.std.specs.List.{flat_map}
use Rattle.std.proofs.lemmas.List.{append-nil}
use Rattle.language_values.specs.Each.{Each}
use Rattle.language.specs.declared.tree.Definition.{Definition}
use Rattle.language.specs.declared.tree.Definition.TheVariants as definition
use Rattle.schema.specs.Catalog.{Catalog}
use Rattle.events.specs.Node.{Node}
use Rattle.events.specs.Occurrence.{Occurrence, occurrences_of, occurrences_in, occurrences}
use Rattle.events.specs.Outline.{Outline, beside, outline_of_directives, outline_of_set}
use Rattle.events.specs.Outline.{outline_of_variable_definitions}
use Rattle.events.specs.Typing.{Typing, at_fragment, at_operation}
use Rattle.events.proofs.Occurrences.{occurrences-document}
use Rattle.walk.specs.ContextState.{DocumentScope}
use Rattle.walk.specs.Entering.{kept_after}
use Rattle.rules_positions.specs.RecordedUses.{next_recorded, recorded_at, with_use, with_uses}
use Rattle.rules_positions.specs.RecordingLaws.{kept-append}
use Rattle.rules_positions.specs.Within.{IsWithin, Within, is_top, within_beside, within_directives, within_occurrences}
use Rattle.rules_positions.specs.Within.{within_set, within_variables}

module _ {U : Type 0} where
  with_use-last : (u : U) (lists : List (List U)) (us : List U)
      → with_use u (lists ++ us ∷ []) ≡ lists ++ (us ++ u ∷ []) ∷ []
  with_use-last u [] us = refl
  with_use-last u (vs ∷ []) us = refl
  with_use-last u (vs ∷ (ws ∷ rest)) us = ap (λ z. vs ∷ z) (with_use-last u (ws ∷ rest) us)

  with_uses-last : (us : List U) (lists : List (List U)) (vs : List U)
      → with_uses us (lists ++ vs ∷ []) ≡ lists ++ (vs ++ us) ∷ []
  with_uses-last [] lists vs = ap (λ z. lists ++ z ∷ []) (sym (append-nil vs))
  with_uses-last (u ∷ us) lists vs =
      ap (with_uses us) (with_use-last u lists vs)
      ∙ with_uses-last us lists (vs ++ u ∷ [])
      ∙ ap (λ z. lists ++ z ∷ []) (append_assoc vs (u ∷ []) us)

  -- a node that is no definition adds its uses to the last list
  at_node : {S : Type 0} (found : List U) (n : Node S) (lists : List (List U)) (us : List U)
      → is_top n ≡ false → recorded_at found n (lists ++ us ∷ []) ≡ lists ++ (us ++ found) ∷ []
  at_node found (Node.document doc) lists us e = cc
  at_node found (Node.operation_definition o) lists us e = cc
  at_node found (Node.fragment_definition f) lists us e = cc
  at_node found _ lists us e = with_uses-last found lists us

module _ {S C U : Type 0} (uses_at : Catalog S C → Occurrence S C → List U) (scope : DocumentScope S C) where
  -- the uses in a definition
  abbrev uses_in : Typing S C → Definition S → List U
  uses_in t d = flat_map (uses_at scope.schema) (occurrences_in scope.schema t d)

  inside : (os : List (Occurrence S C)) (lists : List (List U)) (us : List U) → Each IsWithin os
      → kept_after (next_recorded uses_at scope) (lists ++ us ∷ []) os ≡ lists ++ (us ++ flat_map (uses_at scope.schema) os) ∷ []
  inside [] lists us h = ap (λ z. lists ++ z ∷ []) (sym (append-nil us))
  inside (o ∷ os) lists us (i, is) =
      ap (λ z. kept_after (next_recorded uses_at scope) z os) (at_node (uses_at scope.schema o) o.node lists us i)
      ∙ inside os lists (us ++ uses_at scope.schema o) is
      ∙ ap (λ z. lists ++ z ∷ []) (append_assoc us (uses_at scope.schema o) (flat_map (uses_at scope.schema) os))

  begun : (a : Outline S C) (lists : List (List U)) (us : List U) → Within a
      → kept_after (next_recorded uses_at scope) (lists ++ us ∷ []) (occurrences_of a ++ [])
      ≡ lists ++ (us ++ flat_map (uses_at scope.schema) (occurrences_of a ++ [])) ∷ []
  begun a lists us h = inside (occurrences_of a ++ []) lists us
      (subst (Each IsWithin) (sym (append-nil (occurrences_of a))) (within_occurrences a h))

  module _ (t : Typing S C) where
    in_definition : (d : Definition S) (lists : List (List U))
        → kept_after (next_recorded uses_at scope) lists (occurrences_in scope.schema t d)
        ≡ lists ++ uses_in t d ∷ []
    in_definition (definition.Operation o) lists =
        let schema = scope.schema in
        let u = at_operation schema t o.item in
        begun (beside (outline_of_variable_definitions schema u o.item.variable_definitions)
        (beside (outline_of_directives schema u o.item.directives)
        (outline_of_set schema u o.item.selection_set.items))) lists _
        (within_beside _ _ (within_variables schema u o.item.variable_definitions)
        (within_beside _ _ (within_directives schema u o.item.directives)
        (within_set schema u o.item.selection_set.items)))
    in_definition (definition.Fragment f) lists =
        let schema = scope.schema in
        let u = at_fragment schema t f.item in
        begun (beside (outline_of_directives schema u f.item.directives) (outline_of_set schema u f.item.selection_set.items)) lists _
        (within_beside _ _ (within_directives schema u f.item.directives) (within_set schema u f.item.selection_set.items))

    in_definitions : (doc : List (Definition S)) (lists : List (List U))
        → kept_after (next_recorded uses_at scope) lists (flat_map (occurrences_in scope.schema t) doc)
        ≡ lists ++ map (uses_in t) doc
    in_definitions [] lists = sym (append-nil lists)
    in_definitions (d ∷ doc) lists =
        let schema = scope.schema in
        kept-append (next_recorded uses_at scope) lists (occurrences_in schema t d) (flat_map (occurrences_in schema t) doc)
        ∙ ap (λ z. kept_after (next_recorded uses_at scope) z (flat_map (occurrences_in schema t) doc)) (in_definition d lists)
        ∙ in_definitions doc (lists ++ uses_in t d ∷ [])
        ∙ append_assoc lists (uses_in t d ∷ []) (map (uses_in t) doc)

    pub uses_recorded : (doc : List (Definition S))
        → kept_after (next_recorded uses_at scope) [] (occurrences scope.schema t doc) ≡ map (uses_in t) doc
    uses_recorded doc = ap (λ z. kept_after (next_recorded uses_at scope) [] z) (occurrences-document scope.schema t doc) ∙ in_definitions doc []
