-- How much a search opens, in the document's words.
use Rattle.std.proofs.Common.{◌≡◌, ◌≤◌, ◌+◌, ◌*◌, ℕ, List, [], ◌∷◌, length, ap, arith, refl}
use Rattle.std.specs.List.{sum_by}
use Rattle.std.proofs.lemmas.List.Sums.{sum_by-cons}
use Rattle.std.proofs.lemmas.Nat.{mul-le}
use Rattle.language.specs.declared.tree.Definition.{Definition}
use Rattle.schema.specs.Catalog.{Catalog}
use Rattle.merge_sets.specs.declared.graph.Graph.{Graph}
use Rattle.merge_sets.specs.declared.node.InnerSet.{InnerSet}
use Rattle.merge_sets.specs.declared.node.SetNode.{SetNode}
use Rattle.merge_sets.specs.Judgement.{Judgement}
use Rattle.merge_sets.specs.World.{World, spreads_of}
use Rattle.merge_search.specs.Counts.{all_spreads}
use Rattle.merge_tops.specs.TopCounts.{inner_list, most_openings}
use Rattle.merge_graph.specs.declared.judge.FieldJudge.{FieldJudge}
use Rattle.merge_graph.specs.DocumentGraph.{IsGraphOf}
use Rattle.merge_graph.specs.Sets.{plain_node}
use Rattle.merge_graph.specs.SetsIn.{HasKnownConditions}
use Rattle.merge_graph.specs.Sizes.{document_share, selection_count, selections_share, set_size, share_of}
use Rattle.merge_document.specs.Found.{most_opened}
use Rattle.merge_document.proofs.Comparing.{of_all, spreads_measure}
use Rattle.merge_document.proofs.Sums.{below_places, sorted_below, sum_by_both}

ones : {X : Type 0} (xs : List X) → sum_by (λ (x : X). 1) xs ≡ length xs
ones [] = refl
ones {X} (x ∷ xs) = omega (arith, sum_by-cons (λ (y : X). 1) x xs, ones xs)

share_is : {S : Type 0} (document : List (Definition S)) → document_share document ≡ 4 * selection_count document + 2 * length document
share_is [] = refl
share_is (d ∷ ds) = omega (arith, sum_by-cons share_of d ds, sum_by-cons selections_share d ds, share_is ds)

as_many_at_least : (sets : List SetNode) → length sets ≤ sum_by (λ n. set_size (plain_node n)) sets
as_many_at_least [] = omega arith
as_many_at_least (n ∷ ns) = omega (arith, sum_by-cons (λ (x : SetNode). set_size (plain_node x)) n ns, as_many_at_least ns)

module _ {S C : Type 0} (schema : Catalog S C) (document : List (Definition S)) (known : HasKnownConditions schema document)
    (g : Graph (FieldJudge S C)) (is : IsGraphOf schema document g) (judgement : Judgement) where
  abbrev w : World
  w = record { judgement = judgement; sets = g.sets.items; fragments = g.fragments.items; limit = g.limit }

  pub spreads_few : all_spreads w ≤ selection_count document
  spreads_few =
      let f = λ (s : ℕ). length (spreads_of w s) in
      omega (arith, below_places f g.fragments.items, ap (sum_by f) (is.is).fragments_are, (is.nests known).fragments f (λ n start end. 0) (spreads_measure schema document known g is judgement))

  inner_few : sum_by (λ s. sum_by (inner_list s) g.inner.items) g.order.items ≤ length g.inner.items
  inner_few =
      omega (
        arith,
        of_all schema document known g is judgement (λ s. sum_by (inner_list s) g.inner.items),
        sorted_below (λ (i : InnerSet). i.outer) (λ (i : InnerSet). 1) (length w.sets) g.inner.items,
        ones g.inner.items,
      )

  pub openings_few : most_openings w g.inner.items g.order.items ≤ most_opened document
  openings_few =
      omega (
        arith,
        sum_by_both (λ (s : ℕ). 1) (λ s. sum_by (inner_list s) g.inner.items) g.order.items,
        ones g.order.items,
        inner_few,
        is.size known,
        share_is document,
        as_many_at_least g.sets.items,
      )

  pub opened_few : (opened : ℕ) → opened ≤ length w.fragments * most_openings w g.inner.items g.order.items → (n : ℕ) → length w.fragments ≤ n → opened ≤ n * most_opened document
  opened_few opened le n few = omega (arith, le, mul-le (length w.fragments) (most_openings w g.inner.items g.order.items) n (most_opened document) few openings_few)

  pub looked_few : (looked : ℕ) → looked ≤ all_spreads w * most_openings w g.inner.items g.order.items → looked ≤ selection_count document * most_opened document
  looked_few looked le = omega (arith, le, mul-le (all_spreads w) (most_openings w g.inner.items g.order.items) (selection_count document) (most_opened document) spreads_few openings_few)
