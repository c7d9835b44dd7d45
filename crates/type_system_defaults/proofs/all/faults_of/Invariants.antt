use Rattle.std.proofs.Common.{map, take}
use Rattle.language_values.specs.ValuesPrinted.{printed_value}
use Rattle.type_system_defaults.specs.Faults.{AreFaults, reported}
use Rattle.type_system_defaults.specs.Given.{given_value}
use Rattle.type_system_defaults.proofs.all.faults_of.Given as goal

-- the faults are those of the values that were seen
abbrev pub invariant-loop-default : goal.invariant-loop-default
invariant-loop-default g l =
    AreFaults l.schema g.S.CheckedScalar.may_answer (printed_value g.S.ScalarValue.text g.S.ScalarValue.str_of) (map given_value (take l.default-index l.given)) (reported l.faults)
