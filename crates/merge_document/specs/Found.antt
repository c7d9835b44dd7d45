-- What a search of a document has found.
use Rattle.std.specs.Prelude.{◌≡◌, ◌<◌, ◌⊎◌, ◌+◌, ◌*◌, ℕ, List, Bool, Option, Some, length, map, slice_get}
use Rattle.std.specs.List.{All, Contains}
use Rattle.language.specs.declared.tree.Selection.{Selection}
use Rattle.language.specs.declared.tree.Definition.{Definition}
use Rattle.meta.specs.declared.kinds.MetaTypeOf.{MetaTypeOf}
use Rattle.schema.specs.Catalog.{Catalog}
use Rattle.fragment_graph.specs.Numbers.{Defines}
use Rattle.merge_field_pairs.specs.Entries.{PlainEntry, plain}
use Rattle.merge_field_pairs.specs.OwnFields.{own_spreads}
use Rattle.merge_sets.specs.declared.node.Entry.{Entry}
use Rattle.merge_graph.specs.SetsIn.{IsSetIn, HasKnownConditions}
use Rattle.merge_graph.specs.Sizes.{selection_count, document_depths}
use Rattle.merge_conflicts.specs.Reports.{Reports, postfix, AreReportsOf}
use Rattle.merge_document.specs.Conflicts.{AreReal, AreTold, AreAll, IsTidyDocument}
use Rattle.merge_document.specs.Merging.{DocumentMerges}
use Rattle.merge_document.specs.declared.search.FoundConflicts.{FoundConflicts}

-- The most pairs of fields that a search compares, what it asks of many at once among them: by the selections of the
-- document, at any depth, and the sum of their depths.
abbrev pub most_compared : {S : Type 0} → List (Definition S) → ℕ
most_compared document =
    48 * (selection_count document * document_depths document) + 64 * document_depths document + 500000

-- How often one fragment is opened at most: by the selections of the document, at any depth, and its definitions.
abbrev pub most_opened : {S : Type 0} → List (Definition S) → ℕ
most_opened document = 8 * selection_count document + 4 * length document + 100

-- the search didn't stop because it had found enough
abbrev pub IsFinished : {S C : Type 0} → FoundConflicts S C → Type 0
IsFinished f = (f.limit ≡ 0) ⊎ (length f.found.items < f.limit)

-- What was found are conflicts of the document, each a true one. Where no field repeats an argument, nor a key in one,
-- not all sets merge if something was found; and if the search was finished, what two fields of one set have between
-- them is told, and none is missed where the conditions of inline fragments are known, too.
pub record IsJudged {S C : Type 0} (E : S → S → Bool) (schema : Catalog S C) (document : List (Definition S))
    (f : FoundConflicts S C) : Type 0 where
  pub numbered : Reports Entry
  pub reports : Reports (PlainEntry S C)
  pub found : f.found.items ≡ postfix numbered
  pub are : AreReportsOf (map plain f.fields.items) numbered reports
  pub real : AreReal E schema document reports
  pub refuses : 0 < length f.found.items → IsTidyDocument schema document → DocumentMerges E schema document → ⊥
  pub told : IsFinished f → IsTidyDocument schema document → AreTold E schema document reports
  pub all : IsFinished f → IsTidyDocument schema document → HasKnownConditions schema document → AreAll E schema document reports

-- The same two names, in either order.
abbrev pub SameNames : List ℕ × List ℕ → List ℕ × List ℕ → Type 0
SameNames p q = ((p.0 ≡ q.0) × (p.1 ≡ q.1)) ⊎ ((p.0 ≡ q.1) × (p.1 ≡ q.0))

module _ {S C : Type 0} (schema : Catalog S C) (document : List (Definition S)) where
  -- Two different fragments that one set of the document spreads itself.
  pub record AreSpreadTogether (p : List ℕ × List ℕ) : Type 0 where
    pub different : p.0 ≡ p.1 → ⊥
    pub first : Defines document p.0
    pub second : Defines document p.1
    pub parent : Option (MetaTypeOf S C)
    pub set : List (Selection S)
    pub is : IsSetIn schema document parent set
    pub spreads_first : Contains (own_spreads set) p.0
    pub spreads_second : Contains (own_spreads set) p.1

  -- Pairs of fragments that some set spreads together, each once.
  pub record AreTogether (ps : List (List ℕ × List ℕ)) : Type 0 where
    pub spread : All AreSpreadTogether ps
    pub once : (k l : ℕ) (p q : List ℕ × List ℕ) → k < l → slice_get ps k ≡ Some p → slice_get ps l ≡ Some q → SameNames p q → ⊥
