-- Fragments that lead back to themselves (section 5.5.2.2).
use Rattle.std.specs.Prelude.{◌≡◌, ◌↔◌, ℕ, List, [], ◌∷◌, ◌++◌, Some, codes, length, map}
use Rattle.language.specs.declared.tree.Definition.{Definition}
use Rattle.walk.specs.ContextState.{DocumentScope}
use Rattle.walk.specs.ErrorValue.{ErrorValue}
use Rattle.fragment_graph.specs.Spreads.{fragment_spreads}
use Rattle.fragment_graph.specs.declared.cycles.DocumentCycles.{DocumentCycles}
use Rattle.fragment_graph.specs.DocumentCycles.{NameAndPlace, FindsCycles, HasNoCycle, SearchedDocument}
use Rattle.rules_document.specs.declared.no_fragment_cycles.NoFragmentCycles.{NoFragmentCycles}

abbrev pub cycle_message : List ℕ → List ℕ
cycle_message name = (codes "Cannot spread fragment \"" ++ name) ++ codes "\""

abbrev pub cycle_error : NameAndPlace → ErrorValue
cycle_error r = record { locations = r.1 ∷ []; message = cycle_message r.0 }

-- the rule keeps what a search of the document found
abbrev pub KeepsFound : {S : Type 0} → List (Definition S) → NoFragmentCycles → Type 0
KeepsFound document end = (c : DocumentCycles) × (end.found ≡ Some c) × SearchedDocument document c

-- fragments on cycles, each at a spread inside it on the way back, at least one for every cycle; each spread inside a
-- definition of a fragment was looked at once
pub record CycleErrors {S : Type 0} (document : List (Definition S)) (end : NoFragmentCycles) (es : List ErrorValue) : Type 0 where
  pub reports : List NameAndPlace
  pub found : FindsCycles document reports
  pub errors : es ≡ map cycle_error reports
  pub looked : end.looked ≡ length (fragment_spreads document)
  pub kept : KeepsFound document end

abbrev pub cycle_errors : {S C : Type 0} → DocumentScope S C → List (Definition S) → NoFragmentCycles → List ErrorValue → Type 0
cycle_errors scope document end es = CycleErrors document end es

-- there are none if and only if no fragment leads back to itself, whatever the schema
abbrev pub CyclesAreTold : Type 0 → Type 0
CyclesAreTold S =
    (document : List (Definition S)) (end : NoFragmentCycles) (es : List ErrorValue) → CycleErrors document end es
    → (es ≡ []) ↔ HasNoCycle document
