use Rattle.std.proofs.Common.{map, take}
use Rattle.language_values.specs.ValuesPrinted.{printed_value}
use Rattle.sdl_scalars.specs.Checks.{MayAnswer}
use Rattle.sdl_scalars.specs.SourceScalar.{source_str, source_text}
use Rattle.sdl_directive_values.specs.Faults.{AreFaults, reported}
use Rattle.sdl_directive_values.specs.Given.{given_value}
use Rattle.sdl_directive_values.proofs.all.faults_of.Given as goal

-- the faults are those of the values that were seen
abbrev pub invariant-loop-value : goal.invariant-loop-value
invariant-loop-value l = AreFaults l.schema MayAnswer (printed_value source_text source_str) (map given_value (take l.value-index l.given)) (reported l.faults.items)
