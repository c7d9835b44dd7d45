-- Fragments that no operation reaches (section 5.5.1.4).
use Rattle.std.specs.Prelude.{◌≡◌, ◌⊎◌, ◌↔◌, ℕ, List, [], ◌∷◌, ◌++◌, Some, codes, map, slice_get}
use Rattle.std.specs.List.{Contains}
use Rattle.language.specs.declared.tree.Definition.{Definition}
use Rattle.language.specs.declared.tree.Definition.TheVariants as definition
use Rattle.language_types.specs.Position.{Placed}
use Rattle.language.specs.declared.tree.Fragment.{Fragment}
use Rattle.walk.specs.ErrorValue.{ErrorValue}
use Rattle.fragment_reach.specs.Reach.{IsReached}
use Rattle.fragment_reach.specs.ReachedFragments.{IsNameMarked}
use Rattle.fragment_reach.specs.declared.reached.ReachedFragments.{ReachedFragments}
use Rattle.rules_document.specs.AtDocument.{Gives, lists}
use Rattle.rules_document.specs.MetFragments.{IsMet, NameAndSpan, name_and_span}
use Rattle.rules_document.specs.declared.met_fragments.MetFragments.{MetFragments}
use Rattle.rules_document.specs.declared.no_unused_fragments.NoUnusedFragments.{NoUnusedFragments}

abbrev pub unused_message : List ℕ → List ℕ
unused_message name = (codes "Fragment \"" ++ name) ++ codes "\" is never used"

abbrev pub unused_error : NameAndSpan → ErrorValue
unused_error p = record { locations = p.1.start ∷ []; message = unused_message p.0 }

module _ {S : Type 0} where
  -- the definition is of a fragment of this name and span
  abbrev pub IsSame : Definition S → NameAndSpan → Type 0
  IsSame (definition.Operation o) p = ⊥
  IsSame (definition.Fragment f) p = name_and_span f ≡ p

  -- some definition of a fragment has the name and the span
  abbrev pub Stands : List (Definition S) → NameAndSpan → Type 0
  Stands document p = (d : Definition S) × Contains document d × IsSame d p

  -- there is no fragment that no operation reaches
  abbrev pub NoneUnused : List (Definition S) → Type 0
  NoneUnused document =
      (f : Placed (Fragment S)) → Contains document (definition.Fragment f)
      → ¬ (¬ (IsReached document f.item.name.item.now))

  -- of the fragments among these definitions, each name and span that no operation of the document reaches, once
  pub record UnusedAmong (document definitions : List (Definition S)) (fs : List NameAndSpan) : Type 0 where
    pub once : (i j : ℕ) (p : NameAndSpan) → slice_get fs i ≡ Some p → slice_get fs j ≡ Some p → i ≡ j
    pub are : (p : NameAndSpan) → Contains fs p ↔ (Stands definitions p × (IsReached document p.0 → ⊥))

  -- those of the whole document
  abbrev pub UnusedOf : List (Definition S) → List NameAndSpan → Type 0
  UnusedOf document fs = UnusedAmong document document fs

  -- errors that may be reported of a document
  abbrev pub UnusedErrors : List (Definition S) → List ErrorValue → Type 0
  UnusedErrors document es = (fs : List NameAndSpan) × UnusedOf document fs × (es ≡ map unused_error fs)

  -- their errors
  abbrev pub unused_errors : {C : Type 0} → Gives S C NoUnusedFragments
  unused_errors scope document end es = lists UnusedOf unused_error scope document end es

-- there are none if and only if no fragment is unused, whatever the schema
abbrev pub UnusedAreTold : Type 0 → Type 0
UnusedAreTold S = (document : List (Definition S)) (es : List ErrorValue) → UnusedErrors document es → (es ≡ []) ↔ NoneUnused document

-- a fragment is added where it has no mark and was not met; what is added is met from then on
pub record AddsFragment (r : ReachedFragments) (old new : MetFragments) (p : NameAndSpan) (fs : List NameAndSpan) : Type 0 where
  pub met : (q : NameAndSpan) → IsMet r.graph.now.numbers new q ↔ (IsMet r.graph.now.numbers old q ⊎ Contains fs q)
  pub added : ((IsNameMarked r p.0 ⊎ IsMet r.graph.now.numbers old p) × (fs ≡ []))
      ⊎ ((IsNameMarked r p.0 → ⊥) × (IsMet r.graph.now.numbers old p → ⊥) × (fs ≡ p ∷ []))

abbrev pub AddsUnused : {S : Type 0} → ReachedFragments → MetFragments → MetFragments → Definition S → List NameAndSpan → Type 0
AddsUnused r old new (definition.Operation o) fs = (new ≡ old) × (fs ≡ [])
AddsUnused r old new (definition.Fragment f) fs = AddsFragment r old new (name_and_span f) fs
