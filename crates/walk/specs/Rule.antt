-- What rules may report of documents.
use Rattle.std.specs.Prelude.{◌≡◌, ◌↔◌, List, [], ◌∷◌, ◌++◌, IsPermutation}
use Rattle.language.specs.declared.tree.Definition.{Definition}
use Rattle.schema.specs.Catalog.{Catalog}
use Rattle.walk.specs.declared.multi_visitor.MultiVisitorCons.{MultiVisitorCons}
use Rattle.walk.specs.ErrorValue.{ErrorValue}
use Rattle.walk.specs.ContextState.{ContextState, DocumentScope, IsMadeFor, scope_of, typing, with_errors}
use Rattle.events.specs.Typing.{Typing}
use Rattle.events.specs.TypedEvent.{typed_events}
use Rattle.walk.specs.Step.{StepOf, Run, Ran, events_in}

-- which lists of errors may be reported of each document, which stands at the types given
abbrev pub Allowance : Type 0 → Type 0 → Type 1
Allowance S C = DocumentScope S C → Typing S C → List (Definition S) → List ErrorValue → Type 0

-- a list of errors for each document
abbrev pub Collection : Type 0 → Type 0 → Type 0
Collection S C = DocumentScope S C → Typing S C → List (Definition S) → List ErrorValue

-- what is asked of a document, which stands at the types given
abbrev pub Condition : Type 0 → Type 0 → Type 1
Condition S C = DocumentScope S C → Typing S C → List (Definition S) → Type 0

module _ {S C : Type 0} where
  -- exactly these errors, in some order
  abbrev pub exactly : Collection S C → Allowance S C
  exactly collection scope t doc es = IsPermutation (collection scope t doc) es

  -- what the one allows and what the other allows, in some order
  abbrev pub together : Allowance S C → Allowance S C → Allowance S C
  together newer other scope t doc es =
      (fs : List ErrorValue) × (gs : List ErrorValue) × newer scope t doc fs × other scope t doc gs × IsPermutation (fs ++ gs) es

  -- no errors
  abbrev pub nothing : Allowance S C
  nothing scope t doc es = es ≡ []

  -- what all of these allow together
  abbrev pub sum_of : List (Allowance S C) → Allowance S C
  sum_of [] = nothing
  sum_of (allowance ∷ rest) = together allowance (sum_of rest)

  -- where nothing may be reported, nothing else may
  abbrev pub Settled : Allowance S C → Type 0
  Settled allowance =
      (scope : DocumentScope S C) (t : Typing S C) (doc : List (Definition S)) (es : List ErrorValue)
      → allowance scope t doc [] → allowance scope t doc es → es ≡ []

  -- whatever state a rule ends in
  abbrev pub always : {V : Type 0} → Allowance S C → V → Allowance S C
  always allowance end = allowance

  -- what the two allow at the ends of both
  abbrev pub pair_allows : {V W : Type 0} → (V → Allowance S C) → (W → Allowance S C) → MultiVisitorCons V W → Allowance S C
  pair_allows newer other end = together (newer end.0) (other end.1)

  -- what each run from a fresh value reports of a document is allowed at its end
  abbrev pub AllowsFrom : {V : Type 0} → StepOf S C V → (V → Type 0) → (V → Allowance S C) → Type 0
  AllowsFrom {V} step fresh allows =
      (start : V) → fresh start → (schema : Catalog S C) (t : Typing S C) (doc : List (Definition S)) (end : V) (es : List ErrorValue)
      → Run (step (scope_of schema doc)) (typed_events schema t doc) start end es
      → allows end (scope_of schema doc) t doc es

  -- nothing is collected
  abbrev pub is_empty : Collection S C → Condition S C
  is_empty collection scope t doc = collection scope t doc ≡ []

  -- no errors are allowed
  abbrev pub allows_none : Allowance S C → Condition S C
  allows_none allowance scope t doc = allowance scope t doc []

  -- in any document
  abbrev pub anywhere : Condition S C
  anywhere scope t doc = Unit {0}

  -- where both are so
  abbrev pub both_so : Condition S C → Condition S C → Condition S C
  both_so newer other scope t doc = newer scope t doc × other scope t doc

  -- what is allowed, and nothing if and only if the document meets the condition
  abbrev pub settled_by : Condition S C → Allowance S C → Allowance S C
  settled_by condition allowance scope t doc es = allowance scope t doc es × ((es ≡ []) ↔ condition scope t doc)

  -- what is allowed of a document is nothing if and only if the document meets the condition
  abbrev pub SilentIff : {V : Type 0} → (V → Allowance S C) → Condition S C → Type 0
  SilentIff {V} allows condition =
      (end : V) (scope : DocumentScope S C) (t : Typing S C) (doc : List (Definition S)) (es : List ErrorValue)
      → allows end scope t doc es → (es ≡ []) ↔ condition scope t doc

  -- errors of which P holds were appended, and nothing else has changed
  abbrev pub Appended : (List ErrorValue → Type 0) → ContextState S C → ContextState S C → Type 0
  Appended P old new = (es : List ErrorValue) × P es × (new ≡ with_errors old es)

  -- a document meets a condition, at the types of a context
  abbrev pub Meets : Condition S C → ContextState S C → List (Definition S) → Type 0
  Meets condition w doc = condition (scope_of w.schema doc) (typing w) doc

  -- the errors that were appended are allowed of a document, at the types of the context
  abbrev pub AppendsAllowed : Allowance S C → List (Definition S) → ContextState S C → ContextState S C → Type 0
  AppendsAllowed allowance doc old new = Appended (allowance (scope_of old.schema doc) (typing old) doc) old new

  -- they are allowed at one of the ends that a rule may have
  abbrev pub at_some_end : {V : Type 0} → (V → Allowance S C) → Allowance S C
  at_some_end {V} allows scope t doc es = (end : V) × allows end scope t doc es

  -- a walk from a fresh value appends what is allowed at its end, in each context that was made for the document
  abbrev pub WalksAppend : {V : Type 0} → StepOf S C V → (V → Type 0) → (V → Allowance S C) → Type 0
  WalksAppend {V} step fresh allows =
      (start end : V) (old new : ContextState S C) (doc : List (Definition S))
      → fresh start → IsMadeFor old doc → Ran step (events_in old doc) start end old new
      → AppendsAllowed (allows end) doc old new

-- both of a pair are fresh
abbrev pub pair_fresh : {V W : Type 0} → (V → Type 0) → (W → Type 0) → MultiVisitorCons V W → Type 0
pair_fresh newer other a = newer a.0 × other a.1

-- what is said of the visitor that was added last
abbrev pub of_newest : {V W : Type 0} {X : Type 1} → (V → X) → MultiVisitorCons V W → X
of_newest f a = f a.0

-- any value is
abbrev pub any_value : {V : Type 0} → V → Type 0
any_value a = Unit {0}
