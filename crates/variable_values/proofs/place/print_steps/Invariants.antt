use Rattle.std.proofs.Common.{take}
use Rattle.std.specs.Fmt.{IsPlainFormatter, HasWritten}
use Rattle.std.specs.List.{flat_map}
use Rattle.variable_values.specs.Places.{printed_path_step}
use Rattle.variable_values.proofs.place.print_steps.Given as goal

-- what was written for the steps so far
abbrev pub invariant-loop-step : goal.invariant-loop-step
invariant-loop-step g l =
    IsPlainFormatter l.fn.f → HasWritten g.W.Write.write_str_gives l.fn.f (flat_map printed_path_step (take l.step-index l.steps)) l.f
