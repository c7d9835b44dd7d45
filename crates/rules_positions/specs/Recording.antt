-- Rules that keep something during the walk, and report by it and by the document when the walk leaves the document.
use Rattle.std.specs.Prelude.{◌≡◌, List, []}
use Rattle.language.specs.declared.tree.Definition.{Definition}
use Rattle.events.specs.Node.{Node, document}
use Rattle.events.specs.Occurrence.{Occurrence, occurrences}
use Rattle.events.specs.TypedEvent.{Side, entering, leaving}
use Rattle.events.specs.Typing.{Typing}
use Rattle.walk.specs.ContextState.{DocumentScope}
use Rattle.walk.specs.Entering.{kept_after}
use Rattle.walk.specs.ErrorValue.{ErrorValue}
use Rattle.walk.specs.Rule.{Allowance}
use Rattle.walk.specs.Step.{StepOf}

-- which errors may be given of a document by what was kept, and the state after that
abbrev pub GivesBy : Type 0 → Type 0 → Type 0 → Type 0 → Type 1
GivesBy S C K V = DocumentScope S C → List (Definition S) → K → V → List ErrorValue → Type 0

abbrev pub at_end : {S V : Type 0} → (List (Definition S) → V → List ErrorValue → Type 0) → Node S → V → V → List ErrorValue → Type 0
at_end gives (document doc) a b es = gives doc b es
at_end gives _ a b es = (b ≡ a) × (es ≡ [])

module _ {S C V : Type 0} where
  abbrev pub recording_side : (Occurrence S C → V → V → Type 0)
      → (List (Definition S) → V → V → List ErrorValue → Type 0) → Side → Node S → Typing S C → V → V → List ErrorValue
      → Type 0
  recording_side keeps gives entering node types a b es = keeps (record { node = node; types = types }) a b × (es ≡ [])
  recording_side keeps gives leaving node types a b es = at_end (λ doc c fs. gives doc a c fs) node a b es

module _ {S C V K : Type 0} where
  abbrev pub recording_step : (V → K) → (DocumentScope S C → Occurrence S C → K → K) → GivesBy S C K V → StepOf S C V
  recording_step kept next gives scope event a b es =
      recording_side (λ o c d. kept d ≡ next scope o (kept c))
      (λ doc c d fs. gives scope doc (kept c) d fs) event.side event.node event.types a b es

  -- what is given of the document by what was kept of all its occurrences
  abbrev pub recorded : (DocumentScope S C → Occurrence S C → K → K) → GivesBy S C K V → K → V → Allowance S C
  recorded next gives k end scope t doc es = gives scope doc (kept_after (next scope) k (occurrences scope.schema t doc)) end es
