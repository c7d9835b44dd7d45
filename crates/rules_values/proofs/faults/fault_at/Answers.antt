use Rattle.std.proofs.Common.{ap, subst, IfOk, option_map, string_bytes}
use Rattle.language_types.specs.Types.{borrowed_shape}
use Rattle.language_values.specs.ValuesPrinted.{printed_value}
use Rattle.literals.specs.Judged.{WrittenFault}
use Rattle.rules_values.proofs.faults.fault_at.Goals as goal

pub returns : goal.returns
returns g c =
    subst (λ schema. IfOk c.validate_written_value.result (λ fault. WrittenFault schema g.S.CheckedScalar.may_answer (printed_value g.S.ScalarValue.text g.S.ScalarValue.str_of) c.args.value.now (borrowed_shape c.args.written) (option_map string_bytes fault)))
    (ap (λ k. k.schema) c.ctx.view_is) c.validate_written_value.ensures.fault
