-- What visitors do at the events of a walk.
use Rattle.std.specs.Prelude.{◌≡◌, List, [], ◌∷◌, ◌++◌, true}
use Rattle.walk.specs.ErrorValue.{ErrorValue}
use Rattle.language.specs.declared.tree.Definition.{Definition}
use Rattle.walk.specs.ContextState.{ContextState, DocumentScope, scope_of_context, typing, with_errors}
use Rattle.events.specs.TypedEvent.{TypedEvent, typed_events}

-- what a visitor may do at an event: its state before and after, and the errors that it appends
abbrev pub StepOf : Type 0 → Type 0 → Type 0 → Type 1
StepOf S C V = DocumentScope S C → TypedEvent S C → V → V → List ErrorValue → Type 0

-- from a the steps may go through these events to b, and append es on the way
abbrev pub Run : {E V R : Type 0} → (E → V → V → List R → Type 0) → List E → V → V → List R → Type 0
Run step [] a b es = (b ≡ a) × (es ≡ [])
Run {E} {V} {R} step (x ∷ xs) a b es =
    (mid : V) × (first : List R) × (rest : List R) × step x a mid first × Run step xs mid b rest × (es ≡ first ++ rest)

-- a visitor's step at an event, with the errors that it appended
abbrev pub Stepped : {S C V : Type 0} → StepOf S C V → TypedEvent S C → V → V → ContextState S C → ContextState S C → Type 0
Stepped step event a b old new = (es : List ErrorValue) × step (scope_of_context old) event a b es × (new ≡ with_errors old es)

-- a run through these events, with the errors that it appended
abbrev pub Ran : {S C V : Type 0} → StepOf S C V → List (TypedEvent S C) → V → V → ContextState S C → ContextState S C → Type 0
Ran step events a b old new = (es : List ErrorValue) × Run (step (scope_of_context old)) events a b es × (new ≡ with_errors old es)

-- the events of a document, at the types of a context
abbrev pub events_in : {S C : Type 0} → ContextState S C → List (Definition S) → List (TypedEvent S C)
events_in w doc = typed_events w.schema (typing w) doc

-- whatever was reported, the types are those from before, and a context that had failed has failed
pub record KeepsPlace {S C : Type 0} (old new : ContextState S C) : Type 0 where
  pub allocator : new.allocator ≡ old.allocator
  pub schema : new.schema ≡ old.schema
  pub known : new.known ≡ old.known
  pub typings : new.typings ≡ old.typings
  pub stays : old.failed ≡ true → new.failed ≡ true
