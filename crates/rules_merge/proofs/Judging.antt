-- The errors of a document that was searched.
use Rattle.std.proofs.Common.{◌≡◌, ◌<◌, ◌≤◌, ◌*◌, ◌-◌, ◌↔◌, ◌++◌, ◌∷◌, ◌∙◌, ℕ, suc, List, [], inl, inr, length, length-append, map, Option, Some, None, Bool, refl, sym, ap, subst, arith}
use Rattle.std.specs.Option.{IsSome, is_some}
use Rattle.std.proofs.lemmas.Bool.{true≢false}
use Rattle.std.proofs.lemmas.List.Elements.{All-nil}
use Rattle.std.proofs.lemmas.List.Sorted.{IsPermutation-refl}
use Rattle.language.specs.declared.tree.Definition.{Definition}
use Rattle.schema.specs.Catalog.{Catalog}
use Rattle.fragment_graph.specs.DocumentCycles.{HasNoCycle}
use Rattle.merge_graph.specs.Definitions.{fragment_count}
use Rattle.merge_conflicts.specs.Reports as trees
use Rattle.merge_conflicts.specs.Reports.{AreReportsOf, Reports, count_of, none, postfix}
use Rattle.merge_field_pairs.specs.Entries.{PlainEntry}
use Rattle.merge_sets.specs.declared.node.Entry.{Entry}
use Rattle.merge_sets.specs.declared.finding.Finding.TheVariants.{Nested}
use Rattle.merge_conflicts.specs.Texts.{errors_of}
use Rattle.merge_document.specs.Conflicts.{true_none}
use Rattle.merge_graph.specs.SetsIn.{HasKnownConditions}
use Rattle.merge_graph.specs.Sizes.{selection_count}
use Rattle.merge_document.specs.Found.{IsFinished, IsJudged, AreTogether, most_compared, most_opened}
use Rattle.merge_document.specs.declared.search.FoundConflicts.{FoundConflicts}
use Rattle.rules_merge.specs.declared.overlapping_fields_can_be_merged.OverlappingFieldsCanBeMerged.{OverlappingFieldsCanBeMerged}
use Rattle.rules_merge.specs.OverlappingFieldsCanBeMerged.{ErrorsWithin, IsToldOfSearch, MergeErrors, StoppedErrors, error_value, stop_error}
use Rattle.walk.specs.ErrorValue.{ErrorValue}

-- the bounds on what a search counts
pub record Bounds {S C : Type 0} (schema : Catalog S C) (document : List (Definition S)) (f : FoundConflicts S C) : Type 0 where
  pub few : f.compared ≤ fragment_count document * (fragment_count document - 1)
  pub opened : f.opened ≤ fragment_count document * f.lists
  pub linear : HasKnownConditions schema document → f.opened ≤ fragment_count document * most_opened document
  pub looked : HasKnownConditions schema document → f.looked ≤ selection_count document * most_opened document
  pub compares : HasKnownConditions schema document → f.judged ≤ most_compared document

-- the rule keeps the counts of the search
pub record Keeps {S C : Type 0} (f : FoundConflicts S C) (end : OverlappingFieldsCanBeMerged) : Type 0 where
  pub compared : end.compared ≡ f.compared
  pub opened : end.opened ≡ f.opened
  pub looked : end.looked ≡ f.looked
  pub lists : end.lists ≡ f.lists
  pub judged : end.judged ≡ f.judged

-- so they have the bounds
module _ {S C : Type 0} (schema : Catalog S C) (document : List (Definition S)) (f : FoundConflicts S C) (end : OverlappingFieldsCanBeMerged) (b : Bounds schema document f) (k : Keeps f end) where
  few_kept : end.compared ≤ fragment_count document * (fragment_count document - 1)
  few_kept = subst (λ (n : ℕ). n ≤ fragment_count document * (fragment_count document - 1)) (sym k.compared) b.few

  opened_kept : end.opened ≤ fragment_count document * end.lists
  opened_kept = subst (λ (n : ℕ). n ≤ fragment_count document * end.lists) (sym k.opened) (subst (λ (n : ℕ). f.opened ≤ fragment_count document * n) (sym k.lists) b.opened)

  linear_kept : HasKnownConditions schema document → end.opened ≤ fragment_count document * most_opened document
  linear_kept known = subst (λ (n : ℕ). n ≤ fragment_count document * most_opened document) (sym k.opened) (b.linear known)

  looked_kept : HasKnownConditions schema document → end.looked ≤ selection_count document * most_opened document
  looked_kept known = subst (λ (n : ℕ). n ≤ selection_count document * most_opened document) (sym k.looked) (b.looked known)

  compares_kept : HasKnownConditions schema document → end.judged ≤ most_compared document
  compares_kept known = subst (λ (n : ℕ). n ≤ most_compared document) (sym k.judged) (b.compares known)

module _ {S C : Type 0} (E : S → S → Bool) (schema : Catalog S C) (document : List (Definition S)) where
  -- where some fragment leads back to itself there is nothing
  pub of_none : (o : Option (FoundConflicts S C)) → o ≡ None → (IsSome o ↔ HasNoCycle document) → (end : OverlappingFieldsCanBeMerged)
      → end.compared ≡ 0 → end.opened ≡ 0 → end.looked ≡ 0 → end.judged ≡ 0 → MergeErrors E schema document end []
  of_none o is none_where end compared opened looked judged =
      let cyclic : HasNoCycle document → ⊥ = λ acyclic. true≢false (sym (none_where.1 acyclic) ∙ ap is_some is) in
      record {
        reports = none;
        told = IsPermutation-refl [];
        real = record { true_ones = true_none; in_one_set = All-nil _ };
        cyclic = λ c. (refl, compared);
        told_of_sets = λ acyclic. absurd (cyclic acyclic);
        all = λ acyclic. absurd (cyclic acyclic);
        few = subst (λ (k : ℕ). k ≤ fragment_count document * (fragment_count document - 1)) (sym compared) (omega arith);
        enough = λ acyclic. absurd (cyclic acyclic);
        opened = subst (λ (k : ℕ). k ≤ fragment_count document * end.lists) (sym opened) (omega arith);
        linear = λ known. subst (λ (k : ℕ). k ≤ fragment_count document * most_opened document) (sym opened) (omega arith);
        looked = λ known. subst (λ (k : ℕ). k ≤ selection_count document * most_opened document) (sym looked) (omega arith);
        compares = λ known. omega (arith, judged);
      }

  -- elsewhere what was found, if the search was finished
  pub of_some : (o : Option (FoundConflicts S C)) (f : FoundConflicts S C) → o ≡ Some f → (IsSome o ↔ HasNoCycle document) → (j : IsJudged E schema document f)
      → IsFinished f → (IsFinished f → (ps : List (List ℕ × List ℕ)) → AreTogether schema document ps → length ps ≤ f.compared) → Bounds schema document f
      → (end : OverlappingFieldsCanBeMerged) → Keeps f end → MergeErrors E schema document end (map error_value (errors_of E schema j.reports))
  of_some o f is none_where j done enough b end k =
      let acyclic : HasNoCycle document = none_where.0 (ap is_some is) in
      record {
        reports = j.reports;
        told = IsPermutation-refl (map error_value (errors_of E schema j.reports));
        real = j.real;
        cyclic = λ c. absurd (c acyclic);
        told_of_sets = λ h. j.told done;
        all = λ h. j.all done;
        few = few_kept schema document f end b k;
        enough = λ h ps together. let l = enough done ps together in omega (arith, l, k.compared);
        opened = opened_kept schema document f end b k;
        linear = linear_kept schema document f end b k;
        looked = looked_kept schema document f end b k;
        compares = compares_kept schema document f end b k;
      }

  -- conflicts are as many as what a search finds of them
  counted : (fields : List (PlainEntry S C)) (p : Reports Entry) (r : Reports (PlainEntry S C)) → AreReportsOf fields p r → length (postfix p) ≡ count_of r
  counted fields p r trees.of_none = refl
  counted fields p r (trees.of_direct {rest = rest} {others = others} e x y h) = ap suc (counted fields rest others h)
  counted fields p r (trees.of_nested {a = a} {b = b} {below = below} {rest = rest} {inner = inner} {others = others} x y i h) =
      let long = length-append (postfix below) (Nested a b (length (postfix below)) ∷ postfix rest) in
      omega (arith, long, counted fields below inner i, counted fields rest others h)

  -- and what a search had found that stopped
  pub of_stopped : (f : FoundConflicts S C) (j : IsJudged E schema document f) → 0 < f.limit → f.limit ≤ length f.found.items → Bounds schema document f
      → (end : OverlappingFieldsCanBeMerged) → Keeps f end → StoppedErrors E f.limit schema document end (map error_value (errors_of E schema j.reports) ++ stop_error ∷ [])
  of_stopped f j limited full b end k = record {
    reports = j.reports;
    enough = omega (arith, full, ap length j.found, counted _ j.numbered j.reports j.are);
    told = refl;
    real = j.real;
    refuses = j.refuses (omega (arith, limited, full));
    few = few_kept schema document f end b k;
    opened = opened_kept schema document f end b k;
    linear = linear_kept schema document f end b k;
    looked = looked_kept schema document f end b k;
    compares = compares_kept schema document f end b k;
  }

  -- as the search has told it
  pub of_search : (enough : ℕ) (o : Option (FoundConflicts S C)) (f : FoundConflicts S C) → o ≡ Some f → f.limit ≡ enough → (IsSome o ↔ HasNoCycle document) → (j : IsJudged E schema document f)
      → (IsFinished f → (ps : List (List ℕ × List ℕ)) → AreTogether schema document ps → length ps ≤ f.compared) → Bounds schema document f
      → (end : OverlappingFieldsCanBeMerged) → Keeps f end
      → (es : List ErrorValue) → IsToldOfSearch f (map error_value (errors_of E schema j.reports)) es
      → ErrorsWithin E enough schema document end es
  of_search enough o f is bound none_where j together b end k es (inl (done, told)) =
      inl (subst (MergeErrors E schema document end) (sym told) (of_some o f is none_where j done together b end k))
  of_search enough o f is bound none_where j together b end k es (inr (limited, full, told)) =
      inr (
        subst (λ (n : ℕ). 0 < n) bound limited,
        subst (λ (n : ℕ). StoppedErrors E n schema document end es) bound
            (subst (StoppedErrors E f.limit schema document end) (sym told) (of_stopped f j limited full b end k)),
      )
