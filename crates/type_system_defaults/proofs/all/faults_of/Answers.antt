use Rattle.language_values.specs.ValuesPrinted.{printed_value}
use Rattle.type_system_defaults.specs.Given.{given_value}
use Rattle.type_system_defaults.proofs.Found.{faults_next}
use Rattle.type_system_defaults.proofs.all.faults_of.Goals as goal

pub loop-default-preserved : goal.loop-default-preserved
loop-default-preserved g c =
    faults_next c.args.schema.now g.S.CheckedScalar.may_answer (printed_value g.S.ScalarValue.text g.S.ScalarValue.str_of) given_value c.args.given.now c.loop-default.default-index c.default-item.result _ _ _ c.loop-default-test.true c.default-item.is c.loop-default.invariant c.in_ok-report_default.ensures
