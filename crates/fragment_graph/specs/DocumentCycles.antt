-- Cycles of a document's fragments, by names (section 5.5.2.2).
use Rattle.std.specs.Prelude.{ℕ, List, [], length, map, ◌≡◌, ◌⊎◌, ◌↔◌, slice_get}
use Rattle.std.specs.Option.{unwrap_or}
use Rattle.std.specs.List.{All, Contains}
use Rattle.language_types.specs.declared.position.SourcePosition.{SourcePosition}
use Rattle.language.specs.declared.tree.Definition.{Definition}
use Rattle.fragment_graph.specs.declared.cycles.CycleReport.{CycleReport}
use Rattle.fragment_graph.specs.declared.cycles.DocumentCycles.{DocumentCycles}
use Rattle.fragment_graph.specs.declared.numbers.Numbers.{Numbers}
use Rattle.fragment_graph.specs.declared.search.Report.{Report}
use Rattle.fragment_graph.specs.Numbers.{names_of}
use Rattle.fragment_graph.specs.Searched.{Searched}
use Rattle.fragment_graph.specs.Spreads.{PlacedSpread, fragment_spreads, spreads_of_name}
use Rattle.fragment_graph.specs.DocumentGraph.{IsGraphOf}

-- A definition of f spreads g.
abbrev pub NameSpreads : {S : Type 0} → List (Definition S) → List ℕ → List ℕ → Type 0
NameSpreads document f g = (s : PlacedSpread) × Contains (spreads_of_name document f) s × (s.name ≡ g)

-- A path of one spread or more, by names.
pub data NamePath {S : Type 0} (document : List (Definition S)) : List ℕ → List ℕ → Type 0 where
  name_step : {f g : List ℕ} → NameSpreads document f g → NamePath document f g
  name_more : {f g h : List ℕ} → NameSpreads document f g → NamePath document g h → NamePath document f h

-- A report: a fragment's name, and a place.
abbrev pub NameAndPlace : Type 0
NameAndPlace = List ℕ × SourcePosition

-- The place starts a spread inside the fragment whose target is the fragment or leads back to it.
abbrev pub IsTrueOf : {S : Type 0} → List (Definition S) → NameAndPlace → Type 0
IsTrueOf document r =
    (s : PlacedSpread) × Contains (spreads_of_name document r.0) s × (s.place ≡ r.1) × ((s.name ≡ r.0) ⊎ NamePath document s.name r.0)

abbrev pub IsReported : List NameAndPlace → List ℕ → Type 0
IsReported reports f = (r : NameAndPlace) × Contains reports r × (r.0 ≡ f)

-- Some name on the path is reported; its first is left out, which is its last where it leads back.
abbrev pub SomeReported : {S : Type 0} {document : List (Definition S)} → List NameAndPlace → {f h : List ℕ}
    → NamePath document f h → Type 0
SomeReported reports {h = h} (name_step s) = IsReported reports h
SomeReported reports (name_more {g = g} s path) = IsReported reports g ⊎ SomeReported reports path

-- No name leads back to itself.
abbrev pub HasNoCycle : {S : Type 0} → List (Definition S) → Type 0
HasNoCycle document = (f : List ℕ) → NamePath document f f → ⊥

-- Each report is true, and every path that leads back has one.
pub record FindsCycles {S : Type 0} (document : List (Definition S)) (reports : List NameAndPlace) : Type 0 where
  pub real : All (IsTrueOf document) reports
  pub enough : (f : List ℕ) (path : NamePath document f f) → SomeReported reports path

-- A report of the search, by its fragment's name.
abbrev pub told : Numbers → Report → NameAndPlace
told n r = (unwrap_or (slice_get (names_of n) r.node) [], r.spread.place)

abbrev pub name_and_place : CycleReport → NameAndPlace
name_and_place r = (r.fragment.now, r.place)

-- What a search of a document found.
pub record SearchedDocument {S : Type 0} (document : List (Definition S)) (c : DocumentCycles) : Type 0 where
  pub graph : IsGraphOf document c.graph
  pub outcome : Searched c.graph.nodes.items c.outcome
  pub found : FindsCycles document (map name_and_place c.reports.items)
  pub reports : map name_and_place c.reports.items ≡ map (told c.graph.numbers) c.outcome.reports.items
  -- there is no report if and only if there is no cycle
  pub none : (c.outcome.reports.items ≡ []) ↔ HasNoCycle document
  -- each spread inside a fragment's definition was looked at once
  pub looked : c.outcome.looked ≡ length (fragment_spreads document)
