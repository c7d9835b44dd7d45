-- What is reported of a document, in two stages, and when nothing is.
use Rattle.std.specs.Prelude.{◌≡◌, ◌<◌, ◌↔◌, ℕ, List, [], ◌++◌, Bool}
use Rattle.language.specs.declared.tree.Definition.{Definition}
use Rattle.events.specs.Typing.{Typing}
use Rattle.walk.specs.ContextState.{ContextState, DocumentScope, scope_of, typing, with_errors}
use Rattle.walk.specs.ErrorValue.{ErrorValue}
use Rattle.walk.specs.Rule.{Meets}
use Rattle.merge_document.specs.Conflicts.{AreAll}
use Rattle.merge_document.specs.Merging.{DocumentMerges}
use Rattle.rules_merge.specs.declared.overlapping_fields_can_be_merged.OverlappingFieldsCanBeMerged.{OverlappingFieldsCanBeMerged}
use Rattle.rules_merge.specs.OverlappingFieldsCanBeMerged.{MergeErrors, StoppedErrors}
use Rattle.rules_first_stage.specs.Stage.{Stage}

-- what is known of all rules, for one kind of scalars
pub record Rules (S C : Type 0) : Type 1 where
  -- the rules of the first stage
  pub first_stage : Stage S C
  -- which scalars are equal, where two fields are merged
  pub same : S → S → Bool

module _ {S C : Type 0} (rules : Rules S C) where
  -- In a context that keeps so many errors, with these before, and with this number of pairs that were compared. If the
  -- context has an error after the first stage, the errors are those of the first stage's rules, none if and only if
  -- these find nothing, and no pair was compared. Otherwise they are those of fields that can't be merged, and no
  -- conflict is missed. Where not all errors are kept the search for conflicts may have stopped, and tells so: it has
  -- then found as many as are kept, or more.
  pub data Reported (limit : ℕ) (before : List ErrorValue) (scope : DocumentScope S C) (t : Typing S C)
      (doc : List (Definition S)) : List ErrorValue → ℕ → Type 0 where
    of_stage_one : {es : List ErrorValue}
        → rules.first_stage.may_report scope t doc es → (es ≡ []) ↔ rules.first_stage.find_nothing scope t doc
        → (before ++ es ≡ [] → ⊥) → Reported limit before scope t doc es 0
    of_stage_two : {es : List ErrorValue} {end : OverlappingFieldsCanBeMerged}
        → before ≡ [] → rules.first_stage.find_nothing scope t doc → (told : MergeErrors rules.same scope.schema doc end es)
        → AreAll rules.same scope.schema doc told.reports → Reported limit before scope t doc es end.compared
    of_stopped_search : {es : List ErrorValue} {end : OverlappingFieldsCanBeMerged}
        → before ≡ [] → rules.first_stage.find_nothing scope t doc → 0 < limit
        → StoppedErrors rules.same limit scope.schema doc end es → Reported limit before scope t doc es end.compared

  -- The document is valid: the rules of the first stage find nothing, and each of its selection sets merges, with its
  -- spreads written out.
  pub record IsValid (scope : DocumentScope S C) (t : Typing S C) (doc : List (Definition S)) : Type 0 where
    pub stage_one : rules.first_stage.find_nothing scope t doc
    pub merges : DocumentMerges rules.same scope.schema doc

  -- the rules appended what they report of the document, at the types of the context
  abbrev pub AppendsReported : ContextState S C → ContextState S C → List (Definition S) → ℕ → Type 0
  AppendsReported old new doc pairs =
      (es : List ErrorValue) × Reported old.limit old.errors (scope_of old.schema doc) (typing old) doc es pairs × (new ≡ with_errors old es)

  -- the document is valid, at the types of the context
  abbrev pub IsValidIn : ContextState S C → List (Definition S) → Type 0
  IsValidIn = Meets IsValid
