-- Rules that look at the whole document when the walk leaves it, and do nothing before.
use Rattle.std.specs.Prelude.{◌≡◌, List, [], map}
use Rattle.language.specs.declared.tree.Definition.{Definition}
use Rattle.events.specs.Node.{Node, document}
use Rattle.events.specs.TypedEvent.{Side, entering, leaving}
use Rattle.walk.specs.ErrorValue.{ErrorValue}
use Rattle.walk.specs.ContextState.{DocumentScope}
use Rattle.walk.specs.Step.{StepOf}
use Rattle.walk.specs.Rule.{Allowance}

-- which errors may be given of a document, and the state after that
abbrev pub Gives : Type 0 → Type 0 → Type 0 → Type 1
Gives S C V = DocumentScope S C → List (Definition S) → V → List ErrorValue → Type 0

-- nothing is reported, and the state stays
abbrev pub Idle : {V : Type 0} → V → V → List ErrorValue → Type 0
Idle a b es = (b ≡ a) × (es ≡ [])

abbrev pub at_document : {S V : Type 0} → (List (Definition S) → V → List ErrorValue → Type 0) → Node S → V → V → List ErrorValue → Type 0
at_document gives (document doc) a b es = gives doc b es
at_document gives _ a b es = Idle a b es

abbrev pub document_side : {S V : Type 0} → (List (Definition S) → V → List ErrorValue → Type 0) → Side → Node S → V → V
    → List ErrorValue → Type 0
document_side gives entering node a b es = Idle a b es
document_side gives leaving node a b es = at_document gives node a b es

module _ {S C V : Type 0} where
  abbrev pub document_step : Gives S C V → StepOf S C V
  document_step gives scope event a b es = document_side (gives scope) event.side event.node a b es

  -- a list of which P holds is found in the document, and each entry is an error
  abbrev pub lists : {X : Type 0} → (List (Definition S) → List X → Type 0) → (X → ErrorValue) → Gives S C V
  lists {X} P error scope doc end es = (found : List X) × P doc found × (es ≡ map error found)

  -- what is given of the document, with the state at the end
  abbrev pub given_at_end : Gives S C V → V → Allowance S C
  given_at_end gives end scope t doc es = gives scope doc end es
