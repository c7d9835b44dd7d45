-- Fields of one response name that can't be merged (section 5.3.2).
use Rattle.std.specs.Prelude.{◌≡◌, ◌<◌, ◌≤◌, ◌*◌, ◌-◌, ◌⊎◌, ◌++◌, ◌∷◌, [], ℕ, List, length, Bool, map, codes, IsPermutation}
use Rattle.language.specs.declared.tree.Definition.{Definition}
use Rattle.schema.specs.Catalog.{Catalog}
use Rattle.fragment_graph.specs.DocumentCycles.{HasNoCycle}
use Rattle.merge_field_pairs.specs.Entries.{PlainEntry}
use Rattle.merge_graph.specs.Definitions.{fragment_count}
use Rattle.merge_graph.specs.SetsIn.{HasKnownConditions}
use Rattle.merge_graph.specs.Sizes.{selection_count}
use Rattle.merge_conflicts.specs.Reports.{Reports, count_of, none}
use Rattle.merge_conflicts.specs.Texts.{ConflictValue, errors_of}
use Rattle.merge_document.specs.Conflicts.{AreReal, AreTold, AreAll, IsTidyDocument}
use Rattle.merge_document.specs.Merging.{DocumentMerges}
use Rattle.merge_document.specs.Found.{AreTogether, IsFinished, most_compared, most_opened}
use Rattle.merge_document.specs.declared.search.FoundConflicts.{FoundConflicts}
use Rattle.walk.specs.ContextState.{DocumentScope}
use Rattle.walk.specs.ErrorValue.{ErrorValue}
use Rattle.rules_merge.specs.declared.overlapping_fields_can_be_merged.OverlappingFieldsCanBeMerged.{OverlappingFieldsCanBeMerged}

abbrev pub error_value : ConflictValue → ErrorValue
error_value c = record { locations = c.places; message = c.message }

-- The errors of conflicts, each of them a true one. If the fragments form a cycle there are none, and nothing was
-- compared. If they form no cycle, and no field repeats an argument or a key in one, what two fields of one set have
-- between them is told; and no conflict is missed if the conditions of inline fragments are known, too. At most n (n -
-- 1) pairs of n definitions of fragments were compared, and at least those that some set spreads both of. No search
-- opened more than n; all together they opened few, and looked at few spreads. And few fields were compared, or asked
-- about to pass many at once.
pub record MergeErrors {S C : Type 0} (E : S → S → Bool) (schema : Catalog S C) (document : List (Definition S))
    (end : OverlappingFieldsCanBeMerged) (es : List ErrorValue) : Type 0 where
  pub reports : Reports (PlainEntry S C)
  pub told : IsPermutation (map error_value (errors_of E schema reports)) es
  pub real : AreReal E schema document reports
  pub cyclic : (HasNoCycle document → ⊥) → (reports ≡ none) × (end.compared ≡ 0)
  pub told_of_sets : HasNoCycle document → IsTidyDocument schema document → AreTold E schema document reports
  pub all : HasNoCycle document → IsTidyDocument schema document → HasKnownConditions schema document → AreAll E schema document reports
  pub few : end.compared ≤ fragment_count document * (fragment_count document - 1)
  pub enough : HasNoCycle document → (ps : List (List ℕ × List ℕ)) → AreTogether schema document ps → length ps ≤ end.compared
  pub opened : end.opened ≤ fragment_count document * end.lists
  pub linear : HasKnownConditions schema document → end.opened ≤ fragment_count document * most_opened document
  pub looked : HasKnownConditions schema document → end.looked ≤ selection_count document * most_opened document
  pub compares : HasKnownConditions schema document → end.judged ≤ most_compared document

-- a search has stopped
abbrev pub stop_error : ErrorValue
stop_error = record { locations = []; message = codes "There may be more fields that conflict: the search for them was stopped" }

-- what is told of a search with these conflicts: if it stopped, that as well
abbrev pub IsToldOfSearch : {S C : Type 0} → FoundConflicts S C → List ErrorValue → List ErrorValue → Type 0
IsToldOfSearch f conflicts es =
    (IsFinished f × (es ≡ conflicts)) ⊎ ((0 < f.limit) × (f.limit ≤ length f.found.items) × (es ≡ conflicts ++ stop_error ∷ []))

-- The errors of a search that stopped: those of as many conflicts as are asked for, or more, each of them a true one,
-- and that there may be more. Where no field repeats an argument or a key in one, not all sets merge.
pub record StoppedErrors {S C : Type 0} (E : S → S → Bool) (asked : ℕ) (schema : Catalog S C)
    (document : List (Definition S)) (end : OverlappingFieldsCanBeMerged) (es : List ErrorValue) : Type 0 where
  pub reports : Reports (PlainEntry S C)
  pub enough : asked ≤ count_of reports
  pub told : map error_value (errors_of E schema reports) ++ stop_error ∷ [] ≡ es
  pub real : AreReal E schema document reports
  pub refuses : IsTidyDocument schema document → DocumentMerges E schema document → ⊥
  pub few : end.compared ≤ fragment_count document * (fragment_count document - 1)
  pub opened : end.opened ≤ fragment_count document * end.lists
  pub linear : HasKnownConditions schema document → end.opened ≤ fragment_count document * most_opened document
  pub looked : HasKnownConditions schema document → end.looked ≤ selection_count document * most_opened document
  pub compares : HasKnownConditions schema document → end.judged ≤ most_compared document

-- all errors, or those of a search that stopped at so many findings; 0 asks for all
abbrev pub ErrorsWithin : {S C : Type 0} → (S → S → Bool) → ℕ → Catalog S C → List (Definition S) → OverlappingFieldsCanBeMerged
    → List ErrorValue → Type 0
ErrorsWithin E enough schema document end es =
    MergeErrors E schema document end es ⊎ ((0 < enough) × StoppedErrors E enough schema document end es)

abbrev pub merge_errors : {S C : Type 0} → (S → S → Bool) → DocumentScope S C → List (Definition S)
    → OverlappingFieldsCanBeMerged → List ErrorValue → Type 0
merge_errors E scope document end es = MergeErrors E scope.schema document end es
