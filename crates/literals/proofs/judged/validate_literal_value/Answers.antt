use Rattle.std.proofs.Common.{option_map, string_bytes}
use Rattle.std.proofs.lemmas.Result.{IfOk-weaker}
use Rattle.language_values.specs.ValuesPrinted.{printed_value}
use Rattle.schema.specs.Wrapped.{wrapped_of}
use Rattle.literals.proofs.OneFault.{one_fault}
use Rattle.literals.proofs.judged.validate_literal_value.Goals as goal

pub returns-clause-alone : goal.returns-clause-alone
returns-clause-alone g c =
    IfOk-weaker c.fault_of.result _ _
    (λ a p other q. one_fault c.args.schema.now g.S.CheckedScalar.may_answer (printed_value g.S.ScalarValue.text g.S.ScalarValue.str_of) g.met.S.CheckedScalar.one_answer c.args.value.now (wrapped_of c.args.arg_type.now) other (option_map string_bytes a) q p)
    c.fault_of.ensures
