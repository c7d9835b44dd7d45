-- Two visitors as one.
use Rattle.std.specs.Prelude.{◌≡◌, ◌⊎◌, List, [], ◌++◌, IsPermutation}
use Rattle.walk.specs.declared.multi_visitor.MultiVisitorCons.{MultiVisitorCons}
use Rattle.walk.specs.declared.multi_visitor.MultiVisitorNil.{MultiVisitorNil}
use Rattle.walk.specs.ErrorValue.{ErrorValue}
use Rattle.walk.specs.ContextState.{ContextState, DocumentScope}
use Rattle.events.specs.TypedEvent.{TypedEvent}
use Rattle.walk.specs.Step.{StepOf, Run, Stepped}

-- first the newer visitor's step, and then the other's
abbrev pub pair_step : {S C V W : Type 0} → StepOf S C V → StepOf S C W → StepOf S C (MultiVisitorCons V W)
pair_step newer other scope event a b es =
    (fs : List ErrorValue) × (gs : List ErrorValue) × newer scope event a.0 b.0 fs × other scope event a.1 b.1 gs × (es ≡ fs ++ gs)

-- nothing
abbrev pub no_step : {S C : Type 0} → StepOf S C MultiVisitorNil
no_step scope event a b es = (b ≡ a) × (es ≡ [])

-- the other was not called, unless the newer one made its step
abbrev pub StopsAtFirst : {S C V W : Type 0} → StepOf S C V → TypedEvent S C → MultiVisitorCons V W
    → MultiVisitorCons V W → ContextState S C → Type 0
StopsAtFirst {S} {C} newer event a b old = (b.1 ≡ a.1) ⊎ (mid : ContextState S C) × Stepped newer event a.0 b.0 old mid

-- a run of the pair, taken apart: each of the two runs through the same events, and what the pair appended is what the
-- two appended, in some order
pub record SplitRun {S C V W : Type 0} (newer : StepOf S C V) (other : StepOf S C W) (scope : DocumentScope S C)
    (events : List (TypedEvent S C)) (a b : MultiVisitorCons V W) (es : List ErrorValue) : Type 0 where
  pub by_newer : List ErrorValue
  pub by_other : List ErrorValue
  pub newer_runs : Run (newer scope) events a.0 b.0 by_newer
  pub other_runs : Run (other scope) events a.1 b.1 by_other
  pub together : IsPermutation (by_newer ++ by_other) es

-- each run of the pair comes apart
abbrev pub PairSplits : {S C V W : Type 0} → StepOf S C V → StepOf S C W → Type 0
PairSplits {S} {C} {V} {W} newer other =
    (scope : DocumentScope S C) (events : List (TypedEvent S C)) (a b : MultiVisitorCons V W) (es : List ErrorValue)
    → Run (pair_step newer other scope) events a b es
    → SplitRun newer other scope events a b es
