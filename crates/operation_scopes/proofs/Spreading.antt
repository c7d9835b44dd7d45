-- The spreads inside the operations at some places.
use Rattle.std.proofs.Common.{◌≡◌, ℕ, List, [], ◌∷◌, ◌++◌, Option, Some, None, map, option_map, slice_get, refl, ap, sym, ◌∙◌}
use Rattle.std.specs.List.{flat_map}
use Rattle.std.specs.Option.{option_map_or, unwrap_or}
use Rattle.std.proofs.lemmas.List.{map-append}
use Rattle.std.proofs.lemmas.Option.{slice_get-map}
use Rattle.language.specs.declared.tree.Definition.{Definition}
use Rattle.fragment_graph.specs.declared.numbers.Numbers.{Numbers}
use Rattle.fragment_graph.specs.DocumentGraph.{resolved}
use Rattle.jagged_lists.specs.Lists.{list_at}
use Rattle.fragment_reach.specs.OperationSpreads.{resolved_lists, resolved_spreads}
use Rattle.fragment_reach.specs.Reach.{definition_spreads}
use Rattle.operation_scopes.specs.Searches.{spreads_at}

module _ {S : Type 0} (n : Numbers) (document : List (Definition S)) where
  inside_one : (o : Option (Definition S)) → unwrap_or (option_map (resolved_spreads n) o) [] ≡ map (resolved n) (option_map_or definition_spreads o [])
  inside_one None = refl
  inside_one (Some d) = refl

  list_of : (k : ℕ) → list_at (resolved_lists n document) k ≡ map (resolved n) (spreads_at document k)
  list_of k = ap (λ o. unwrap_or o []) (slice_get-map (resolved_spreads n) document k) ∙ inside_one (slice_get document k)

  -- as they are stored, and as they are in the document
  pub lists_at : (places : List ℕ) → flat_map (list_at (resolved_lists n document)) places ≡ map (resolved n) (flat_map (spreads_at document) places)
  lists_at [] = refl
  lists_at (k ∷ places) =
      ap (λ z. z ++ flat_map (list_at (resolved_lists n document)) places) (list_of k)
      ∙ ap (λ z. map (resolved n) (spreads_at document k) ++ z) (lists_at places)
      ∙ sym (map-append (resolved n) (spreads_at document k) (flat_map (spreads_at document) places))
