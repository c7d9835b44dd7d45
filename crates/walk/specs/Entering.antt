-- Steps that are made where nodes are entered, and the lists that they report.
use Rattle.std.specs.Prelude.{◌≡◌, List, [], ◌∷◌, ◌++◌}
use Rattle.std.specs.List.{Contains, flat_map}
use Rattle.walk.specs.ErrorValue.{ErrorValue}
use Rattle.walk.specs.ContextState.{DocumentScope}
use Rattle.language.specs.declared.tree.Definition.{Definition}
use Rattle.events.specs.Node.{Node, document}
use Rattle.events.specs.Typing.{Typing}
use Rattle.events.specs.TypedEvent.{Side, entering, leaving}
use Rattle.events.specs.Occurrence.{Occurrence, occurrences}
use Rattle.walk.specs.Step.{StepOf}
use Rattle.walk.specs.Rule.{Allowance, Collection, Condition, exactly}

-- what is made of the document where it is entered
abbrev pub made_at : {S K : Type 0} → (List (Definition S) → K) → Node S → K → K
made_at make (document doc) k = make doc
made_at make _ k = k

module _ {S C : Type 0} where
  -- what a rule does at an occurrence: its state before and after, and what it reports
  abbrev pub at_side : {V : Type 0} → (Occurrence S C → V → V → List ErrorValue → Type 0) → Side → Node S → Typing S C
      → V → V → List ErrorValue → Type 0
  at_side step entering node types a b es = step (record { node = node; types = types }) a b es
  at_side step leaving node types a b es = (b ≡ a) × (es ≡ [])

  -- a step where a node is entered, and none where it is left
  abbrev pub entering_step : {V : Type 0} → (DocumentScope S C → Occurrence S C → V → V → List ErrorValue → Type 0) → StepOf S C V
  entering_step step scope event a b es = at_side (step scope) event.side event.node event.types a b es

  -- A rule with no state: what it finds at each occurrence.
  abbrev pub finding_step : {V : Type 0} → (DocumentScope S C → Occurrence S C → List ErrorValue) → StepOf S C V
  finding_step finds = entering_step (λ scope o a b es. (b ≡ a) × (es ≡ finds scope o))

  -- what is found at each occurrence of the document
  abbrev pub found : (DocumentScope S C → Occurrence S C → List ErrorValue) → Collection S C
  found finds scope t doc = flat_map (finds scope) (occurrences scope.schema t doc)

  -- A rule with no state that may choose what it reports at an occurrence, as one that calls checks.
  abbrev pub relating_step : {V : Type 0} → (DocumentScope S C → Occurrence S C → List ErrorValue → Type 0) → StepOf S C V
  relating_step gives = entering_step (λ scope o a b es. (b ≡ a) × gives scope o es)

  -- A rule that keeps something, which is replaced at each occurrence, as a list that is pushed on and reset.
  abbrev pub keeping_step : {V K : Type 0} → (V → K) → (DocumentScope S C → Occurrence S C → K → K)
      → (DocumentScope S C → Occurrence S C → K → List ErrorValue) → StepOf S C V
  keeping_step kept next finds = entering_step (λ scope o a b es. (kept b ≡ next scope o (kept a)) × (es ≡ finds scope o (kept a)))

  -- A rule that makes something of the document where it is entered, and reads it from then on.
  abbrev pub prepared_step : {V K : Type 0} → (V → K) → (DocumentScope S C → List (Definition S) → K)
      → (DocumentScope S C → K → Occurrence S C → List ErrorValue) → StepOf S C V
  prepared_step kept make finds =
      entering_step (λ scope o a b es. (kept b ≡ made_at (make scope) o.node (kept a)) × (es ≡ finds scope (kept b) o))

  -- what is found at each occurrence of the document by what is made of it
  abbrev pub found_by : {K : Type 0} → (DocumentScope S C → List (Definition S) → K)
      → (DocumentScope S C → K → Occurrence S C → List ErrorValue) → Collection S C
  found_by make finds scope t doc = flat_map (finds scope (make scope doc)) (occurrences scope.schema t doc)

-- each of the list in turn gives some part
abbrev pub EachGives : {O R : Type 0} → (O → List R → Type 0) → List O → List R → Type 0
EachGives gives [] es = es ≡ []
EachGives {O} {R} gives (o ∷ os) es = (first : List R) × (rest : List R) × gives o first × EachGives gives os rest × (es ≡ first ++ rest)

-- what is found in the list by what is kept
abbrev pub found_keeping : {O K R : Type 0} → (O → K → K) → (O → K → List R) → K → List O → List R
found_keeping next finds k [] = []
found_keeping next finds k (o ∷ os) = finds o k ++ found_keeping next finds (next o k) os

-- what is kept after the list
abbrev pub kept_after : {O K : Type 0} → (O → K → K) → K → List O → K
kept_after next k [] = k
kept_after next k (o ∷ os) = kept_after next (next o k) os

module _ {S C : Type 0} where
  -- what the occurrences of a document give
  abbrev pub given : (DocumentScope S C → Occurrence S C → List ErrorValue → Type 0) → Allowance S C
  given gives scope t doc es = EachGives (gives scope) (occurrences scope.schema t doc) es

  -- what is found at the occurrences of a document by what is kept, at first k
  abbrev pub kept_findings : {K : Type 0} → (DocumentScope S C → Occurrence S C → K → K)
      → (DocumentScope S C → Occurrence S C → K → List ErrorValue) → K → Collection S C
  kept_findings next finds k scope t doc = found_keeping (next scope) (finds scope) k (occurrences scope.schema t doc)

  -- the same, and what is kept at the end
  abbrev pub kept_to : {V K : Type 0} → (V → K) → (DocumentScope S C → Occurrence S C → K → K)
      → (DocumentScope S C → Occurrence S C → K → List ErrorValue) → K → V → Allowance S C
  kept_to kept next finds k end scope t doc es =
      (kept end ≡ kept_after (next scope) k (occurrences scope.schema t doc)) × exactly (kept_findings next finds k) scope t doc es

  -- nothing is found on the way
  abbrev pub nothing_on_the_way : {K : Type 0} → DocumentScope S C → Occurrence S C → K → List ErrorValue
  nothing_on_the_way scope o k = []

  -- each occurrence of the document is as it should be
  abbrev pub everywhere : (DocumentScope S C → Occurrence S C → Type 0) → Condition S C
  everywhere IsRight scope t doc = (o : Occurrence S C) → Contains (occurrences scope.schema t doc) o → IsRight scope o

  -- each occurrence is as it should be, by what is made of the document
  abbrev pub everywhere_by : {K : Type 0} → (DocumentScope S C → List (Definition S) → K)
      → (DocumentScope S C → K → Occurrence S C → Type 0) → Condition S C
  everywhere_by make IsRight scope t doc =
      (o : Occurrence S C) → Contains (occurrences scope.schema t doc) o → IsRight scope (make scope doc) o
