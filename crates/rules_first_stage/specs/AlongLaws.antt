-- A value that stands for another reports what the other reports.
use Rattle.std.proofs.Common.{List, [], ◌∷◌, ap}
use Rattle.events.specs.TypedEvent.{typed_events}
use Rattle.walk.specs.ContextState.{scope_of}
use Rattle.walk.specs.Rule.{Allowance, AllowsFrom, Condition, SilentIff}
use Rattle.walk.specs.Step.{Run, StepOf}
use Rattle.rules_first_stage.specs.Along.{along, step_along}

-- a run of what a value stands for
run_along : {E V W R : Type 0} (f : V → W) (step : E → W → W → List R → Type 0) (events : List E) (a b : V) (es : List R)
    → Run (λ e x y rs. step e (f x) (f y) rs) events a b es → Run step events (f a) (f b) es
run_along f step [] a b es r = (ap f r.0, r.1)
run_along f step (x ∷ events) a b es (mid, first, rest, s, r, e) = (f mid, first, rest, s, run_along f step events mid b rest r, e)

module _ {S C V W : Type 0} (f : V → W) where
  pub keeps_along : (step : StepOf S C W) (fresh : W → Type 0) (allows : W → Allowance S C)
      → AllowsFrom step fresh allows → AllowsFrom (step_along f step) (along f fresh) (along f allows)
  keeps_along step fresh allows keeps start made schema t doc end es r =
      keeps (f start) made schema t doc (f end) es (run_along f (step (scope_of schema doc)) (typed_events schema t doc) start end es r)

  pub silent_along : (allows : W → Allowance S C) (condition : Condition S C) → SilentIff allows condition
      → SilentIff (along f allows) condition
  silent_along allows condition silent end = silent (f end)
