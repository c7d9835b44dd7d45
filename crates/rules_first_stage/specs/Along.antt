-- A value that stands for another, as a value of one type stands for a list of rules.
use Rattle.walk.specs.Step.{StepOf}

-- it does what the other does
abbrev pub step_along : {S C V W : Type 0} → (V → W) → StepOf S C W → StepOf S C V
step_along f step scope event a b es = step scope event (f a) (f b) es

-- what is said of the other is said of it
abbrev pub along : {V W : Type 0} {X : Type 1} → (V → W) → (W → X) → V → X
along f said a = said (f a)
