-- How many fields a search compares, in the document's words.
use Rattle.std.proofs.Common.{◌≡◌, ◌==◌, ◌<◌, ◌≤◌, ◌+◌, ◌*◌, ◌++◌, ℕ, List, [], ◌∷◌, length, length-append, get_or, Option, Some, slice_get, ap, sym, true, ◌∙◌, inl, inr, ◌⊎◌, arith}
use Rattle.std.specs.Prelude.{slice_range}
use Rattle.std.specs.List.{sum_by}
use Rattle.std.specs.Option.{option_map_or}
use Rattle.std.proofs.lemmas.Nat.{mul-le}
use Rattle.std.proofs.lemmas.List.Sums.{sum_by-cons, sum_by-append}
use Rattle.language.specs.declared.tree.Definition.{Definition}
use Rattle.language.specs.declared.tree.Selection.{Selection}
use Rattle.language.specs.declared.tree.Selection.TheVariants as selection
use Rattle.language.specs.SelectionsInside.{selections_inside, all_inside}
use Rattle.meta.specs.declared.kinds.MetaTypeOf.{MetaTypeOf}
use Rattle.schema.specs.Catalog.{Catalog}
use Rattle.merge_sets.specs.declared.graph.Graph.{Graph}
use Rattle.merge_sets.specs.declared.node.Entry.{Entry}
use Rattle.merge_sets.specs.declared.node.InnerSet.{InnerSet}
use Rattle.merge_sets.specs.Judgement.{Judgement}
use Rattle.merge_search.specs.Spending.{sum_below, fragments_weight, sets_weight}
use Rattle.merge_tops.specs.TopCosts.{top_cost, part_weight, inner_cost, set_cost, set_questions, search_cost}
use Rattle.merge_search.specs.Weight.{weight, field_weight, fields_weight, fragment_weight}
use Rattle.merge_sets.specs.World.{World, own_of, spreads_of}
use Rattle.merge_search.proofs.Weights.{length_weight, own_weight, nothing_weighs, sum_by_below}
use Rattle.merge_search.proofs.Worth.{sum_kept}
use Rattle.merge_sets.proofs.NoSet.{no_spreads}
use Rattle.merge_set_table.specs.Once.{is_among}
use Rattle.merge_document.proofs.Once.{joined, no_more}
use Rattle.std.proofs.lemmas.List.Folds.{list_any-append}
use Rattle.merge_set_table.specs.declared.table.NumberedSet.{NumberedSet}
use Rattle.merge_set_table.specs.Inside.{IsInside, itself, below_field, of_inline}
use Rattle.merge_set_table.specs.Nesting.{Measures}
use Rattle.merge_set_table.specs.Represents.{IsSetOf, Represents, nothing, join, leaf, field, spread, unknown, inline}
use Rattle.merge_set_table.proofs.Counts.{count_leaf, count_field, count_inline, count_append, count_spread}
use Rattle.merge_set_table.proofs.Depths.{deeper}
use Rattle.merge_graph.specs.declared.judge.FieldJudge.{FieldJudge}
use Rattle.merge_graph.specs.Definitions.{type_round, selections_of}
use Rattle.merge_graph.specs.DocumentGraph.{IsGraphOf}
use Rattle.merge_graph.specs.SetsIn.{IsSetIn, HasKnownConditions}
use Rattle.merge_graph.specs.Sizes.{selections_share, selection_count, depths_share, document_depths}
use Rattle.merge_graph.proofs.SetLaws.{equally_many, own_same, spreads_same}
use Rattle.merge_document.proofs.Sums.{one_of_all, stretch_of_all, sum_by_both, sum_by_capped, below_places, sum_by_all, sorted_below}

-- sets inside have no more selections
module _ {S C : Type 0} (schema : Catalog S C) where
  inside_few : (p : Option (MetaTypeOf S C)) (set : List (Selection S)) (q : Option (MetaTypeOf S C)) (inner : List (Selection S)) → IsInside schema p set q inner → all_inside inner ≤ all_inside set
  inside_few p set q inner itself = omega arith
  inside_few p set q inner (below_field {q = r} {inner = round} f w i c some) =
      omega (arith, inside_few p set r round i, one_of_all selections_inside round (selection.Field f) c, count_field f w some, sum_by-cons selections_inside (selection.Field f) [])
  inside_few p set q inner (of_inline {q = r} {inner = round} f i c) =
      omega (arith, inside_few p set r round i, one_of_all selections_inside round (selection.InlineFragment f) c, count_inline f, sum_by-cons selections_inside (selection.InlineFragment f) [])

  pub set_few : (document : List (Definition S)) (p : Option (MetaTypeOf S C)) (set : List (Selection S)) → IsSetIn schema document p set → all_inside set ≤ selection_count document
  set_few document p set i =
      omega (arith, inside_few (type_round schema i.0) (selections_of i.0) p set i.2, one_of_all selections_share document i.0 i.1)

-- there are no more selections than their depths
pub count_deep : {S : Type 0} (document : List (Definition S)) → selection_count document ≤ document_depths document
count_deep [] = omega arith
count_deep (d ∷ ds) = omega (arith, sum_by-cons selections_share d ds, sum_by-cons depths_share d ds, deeper (selections_of d) 0, count_deep ds)

module _ {S C : Type 0} (schema : Catalog S C) (document : List (Definition S)) (known : HasKnownConditions schema document)
    (g : Graph (FieldJudge S C)) (is : IsGraphOf schema document g) (judgement : Judgement) where
  abbrev w : World
  w = record { judgement = judgement; sets = g.sets.items; fragments = g.fragments.items; limit = g.limit }

  abbrev rows : List NumberedSet
  rows = (is.table).sets

  own_is : (n : ℕ) (row : NumberedSet) → slice_get rows n ≡ Some row → own_of w n ≡ row.own.items
  own_is n row at = own_same g.sets.items rows (is.is).sets n ∙ ap (λ o. option_map_or (λ (s : NumberedSet). s.own.items) o []) at

  weighs_row : (n : ℕ) (row : NumberedSet) → slice_get rows n ≡ Some row → weight w n ≡ fields_weight w row.own.items
  weighs_row n row at = own_weight w g.falling n ∙ ap (fields_weight w) (own_is n row at)

  -- own fields weigh no more than the selections that they represent, and what these spread is among the others
  shares : (numbers : List ℕ → Option ℕ) (p : Option (MetaTypeOf S C)) (set : List (Selection S)) (own : List Entry) (to : List ℕ)
      → Represents schema numbers is.table p set own to
      → (ys : List ℕ) × (fields_weight w own + length ys ≤ all_inside set) × ((x : ℕ) → is_among to x ≡ true → is_among ys x ≡ true)
  shares numbers p set own to nothing = ([], omega arith, λ x h. h)
  shares numbers p set own to (join {xs = xs} {ys = ys} {own = os} {own' = ps} {to = tos} {to' = ups} a b) =
      let left = shares numbers p xs os tos a in
      let right = shares numbers p ys ps ups b in (
        left.0 ++ right.0,
        omega (arith, left.1, right.1, length-append left.0 right.0, sum_by-append (field_weight w) os ps, count_append xs ys),
        λ x h. list_any-append (λ y. y == x) left.0 right.0 ∙ joined (is_among tos x) (is_among ups x) (is_among left.0 x) (is_among right.0 x) (left.2 x) (right.2 x) (sym (list_any-append (λ y. y == x) tos ups) ∙ h),
      )
  shares numbers p set own to (leaf f a at none below) =
      ([], omega (arith, sum_by-cons (field_weight w) a [], ap (λ o. option_map_or (weight w) o 0) below, count_leaf f none), λ x h. h)
  shares numbers p set own to (field f a v n row ups at some below stored once r) = (
    [],
    omega (
      arith,
      sum_by-cons (field_weight w) a [],
      ap (λ o. option_map_or (weight w) o 0) below,
      weighs_row n row stored,
      (shares numbers _ v.items row.own.items ups r).1,
      count_field f v some,
    ),
    λ x h. h,
  )
  shares numbers p set own to (spread s f h) = (f ∷ [], omega (arith, count_spread s), λ x z. z)
  shares numbers p set own to (unknown s h) = ([], omega arith, λ x h. h)
  shares numbers p set own to (inline i os tos ups same r) =
      let inside = shares numbers _ i.item.selection_set.items os tos r in
      (inside.0, omega (arith, inside.1, count_inline i), λ x h. inside.2 x (sym (same x) ∙ h))

  spreads_is : (n : ℕ) (row : NumberedSet) → slice_get rows n ≡ Some row → spreads_of w n ≡ row.spreads.items
  spreads_is n row at = spreads_same g.sets.items rows (is.is).sets n ∙ ap (λ o. option_map_or (λ (s : NumberedSet). s.spreads.items) o []) at

  -- a set, by its fields and what stands below them, and by what it spreads
  abbrev measure : ℕ → ℕ
  measure s = weight w s + length (spreads_of w s)

  set_shares : (numbers : List ℕ → Option ℕ) (p : Option (MetaTypeOf S C)) (set : List (Selection S)) (n : ℕ) → IsSetOf schema numbers is.table n p set → measure n ≤ all_inside set
  set_shares numbers p set n s =
      let share = shares numbers p set s.row.own.items s.to s.represents in
      omega (arith, weighs_row n s.row s.stored, ap length (spreads_is n s.row s.stored), no_more s.to s.row.spreads.items share.0 s.once share.2, share.1)

  -- no set spreads more than it has selections
  pub spreads_measure : Measures schema is.table (λ s. length (spreads_of w s)) (λ n start end. 0)
  spreads_measure = record {
    sets = λ numbers p set n s. omega (arith, set_shares numbers p set n s);
    parts = λ n row at. record { most = λ numbers p set start end to low high r. omega arith };
  }

  abbrev part : ℕ → ℕ → ℕ → ℕ
  part n start end = fields_weight w (slice_range (own_of w n) start end)

  measures : Measures schema is.table measure part
  measures = record {
    sets = set_shares;
    parts = λ n row at. record {
      most = λ numbers p set start end to low high r.
          omega (arith, ap (λ own. fields_weight w (slice_range own start end)) (own_is n row at), (shares numbers p set (slice_range row.own.items start end) to r).1);
    };
  }

  abbrev count : ℕ
  count = selection_count document

  many : length w.sets ≡ length rows
  many = equally_many g.sets.items rows (is.is).sets

  low_or_past : (s : ℕ) → (s < length rows) ⊎ (length w.sets ≤ s)
  low_or_past s = elim (Rattle.std.proofs.lemmas.Bool.cases_order s (length rows)) [
    | inl eq ↦ inr (omega (arith, eq, many))
    | inr o ↦ elim o [ inl lt ↦ inl lt | inr gt ↦ inr (omega (arith, gt, many)) ]
  ]

  -- no set measures more than the document has selections, nor does a part of one
  measure_few : (s : ℕ) → measure s ≤ count
  measure_few s = elim (low_or_past s) [
    | inl low ↦ (let (p, set, i, at) = (is.origins).sets s ((is.origins).whole known s low) in
        omega (arith, set_shares is.numbers p set s at, set_few schema document p set i))
    | inr past ↦ omega (arith, nothing_weighs w s past, no_spreads w s past)
  ]

  weight_few : (s : ℕ) → weight w s ≤ count
  weight_few s = omega (arith, measure_few s)

  part_few : (i : InnerSet) → part_weight w i ≤ count
  part_few i = omega (arith, stretch_of_all (field_weight w) (own_of w i.outer) i.first_field i.fields_end, own_weight w g.falling i.outer, weight_few i.outer)

  fragments_few : fragments_weight w ≤ count
  fragments_few =
      omega (
        arith,
        below_places measure g.fragments.items,
        ap (sum_by measure) (is.is).fragments_are,
        (is.nests known).fragments measure part measures,
        sum_kept (fragment_weight w) (λ k. measure (get_or g.fragments.items k 0)) (length g.fragments.items) (λ k. omega arith),
      )

  -- what is summed up of all sets is summed up in their order
  pub of_all : (f : ℕ → ℕ) → sum_by f g.order.items ≡ sum_below f (length w.sets)
  of_all f =
      let nests = is.nests known in
      ap (sum_by f) (is.is).order_is ∙ sum_by_all f (length w.sets) is.order (omega (arith, nests.count, many)) (λ k l. (is.origins).whole known k (omega (arith, l, many)))

  abbrev sets : ℕ
  sets = sum_by measure g.order.items

  abbrev parts : ℕ
  parts = sum_by (part_weight w) g.inner.items

  deep : sets + parts ≤ document_depths document
  deep = omega (arith, ap (sum_by measure) (is.is).order_is, (is.nests known).few measure part measures)

  own_length : (s : ℕ) → length (own_of w s) ≤ weight w s
  own_length s = omega (arith, own_weight w g.falling s, length_weight w (own_of w s))

  -- comparing a set, and asking of it as a whole, cost no more than its measure with itself and all fragments
  both_few : (s : ℕ) → top_cost w (weight w s) + set_questions w s ≤ measure s * (measure s + fragments_weight w)
  both_few s =
      let n = length (spreads_of w s) in
      omega (arith, mul-le n (n + length (own_of w s)) n (n + weight w s) (omega arith) (omega (arith, own_length s)))

  sets_cost : sum_by (λ s. top_cost w (weight w s) + set_questions w s) g.order.items ≤ sets * (count + fragments_weight w)
  sets_cost =
      omega (
        arith,
        sum_by_below (λ s. top_cost w (weight w s) + set_questions w s) (λ s. measure s * (measure s + fragments_weight w)) g.order.items (λ k d l. both_few (get_or g.order.items k d)),
        sum_by_capped measure count (fragments_weight w) g.order.items measure_few,
      )

  inner_costs : sum_by (inner_cost w g.inner.items) g.order.items ≤ parts * (count + fragments_weight w)
  inner_costs =
      omega (
        arith,
        of_all (inner_cost w g.inner.items),
        sorted_below (λ (i : InnerSet). i.outer) (λ i. top_cost w (part_weight w i)) (length w.sets) g.inner.items,
        sum_by_capped (part_weight w) count (fragments_weight w) g.inner.items part_few,
      )

  all_costs : sum_by (set_cost w g.inner.items) g.order.items ≤ (sets + parts) * (count + fragments_weight w)
  all_costs = omega (arith, sum_by_both (λ s. top_cost w (weight w s) + set_questions w s) (inner_cost w g.inner.items) g.order.items, sets_cost, inner_costs)

  -- what is summed up of all sets is no more than the depths
  below_depths : (f : ℕ → ℕ) → ((s : ℕ) → f s ≤ measure s) → sum_below f (length w.sets) ≤ document_depths document
  below_depths f le = omega (arith, of_all measure, sum_kept f measure (length w.sets) le, deep)

  -- in the document's words
  pub cost_few : search_cost w g.inner.items g.order.items ≤ 6 * (count * document_depths document) + 8 * document_depths document + 62500
  cost_few =
      let deep_count = count_deep document in
      let depths = document_depths document in
      let fw = fragments_weight w in
      omega (
        arith,
        all_costs,
        mul-le (sets + parts) (count + fw) depths (count + count) deep (omega (arith, fragments_few)),
        mul-le fw (fw + sets_weight w) count (depths + depths) fragments_few (omega (arith, fragments_few, deep_count, below_depths (weight w) (λ s. omega arith))),
        below_depths (λ s. length (own_of w s)) (λ s. omega (arith, own_length s)),
      )
