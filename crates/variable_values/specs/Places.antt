-- The text for a place in a value.
use Rattle.std.specs.Prelude.{ℕ, List, String, Vec, ◌++◌}
use Rattle.std.specs.List.{flat_map}
use Rattle.std.specs.declared.alloc.Global.{Global}
use Rattle.variable_values.specs.declared.place.PathStep.{PathStep}
use Rattle.variable_values.specs.declared.place.PathStep.TheVariants as p
use Rattle.variable_values.specs.declared.place.Place.{Place}
use Rattle.variable_values.specs.Faults.{Fault, Step, element, field}
use Rattle.variable_values.specs.Messages.{Adds, invalid_text, printed_step, texts_of}

abbrev pub step_of : PathStep → Step
step_of (p.Element i) = element i
step_of (p.Field key) = field key.now

abbrev pub printed_path_step : PathStep → List ℕ
printed_path_step step = printed_step (step_of step)

-- The variable, and then the steps to the place, outermost first.
abbrev pub before_path : List ℕ → List PathStep → List ℕ
before_path variable steps = invalid_text variable ++ flat_map printed_path_step steps

abbrev pub before : Place → List ℕ
before place = before_path place.variable.now place.steps.now

-- The faults of which P holds were reported at a place: a message of each came behind those that were there.
abbrev pub AddsAt : (List Fault → Type 0) → Place → Vec (String Global) Global → Vec (String Global) Global → Type 0
AddsAt P place old new = Adds P (before place) (texts_of old) (texts_of new)
