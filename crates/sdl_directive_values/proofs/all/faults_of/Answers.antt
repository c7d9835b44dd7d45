use Rattle.language_values.specs.ValuesPrinted.{printed_value}
use Rattle.sdl_scalars.specs.Checks.{MayAnswer}
use Rattle.sdl_scalars.specs.SourceScalar.{source_str, source_text}
use Rattle.sdl_directive_values.specs.Given.{given_value}
use Rattle.sdl_directive_values.proofs.Found.{faults_next}
use Rattle.sdl_directive_values.proofs.all.faults_of.Goals as goal

pub loop-value-preserved : goal.loop-value-preserved
loop-value-preserved c =
    faults_next c.args.schema.now MayAnswer (printed_value source_text source_str) given_value c.args.given.now c.loop-value.value-index c.value-item.result _ _ _ c.loop-value-test.true c.value-item.is c.loop-value.invariant c.in_ok-report_value.ensures
