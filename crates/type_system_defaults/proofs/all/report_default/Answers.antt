use Rattle.std.proofs.Common.{[], None, Some, map, ap, refl, sym, ◌∙◌, subst, string_bytes, option_map}
use Rattle.std.proofs.lemmas.List.{append-nil, map-append}
use Rattle.language_types.specs.Types.{borrowed_shape}
use Rattle.language_values.specs.ValuesPrinted.{printed_value}
use Rattle.literals.specs.Judged.{WrittenFault}
use Rattle.type_system_report.specs.Fault.{coordinate_value}
use Rattle.type_system_defaults.specs.Faults.{default_fault, fault_at, reported}
use Rattle.type_system_defaults.proofs.all.report_default.Goals as goal

pub returns-in-None : goal.returns-in-None
returns-in-None g c =
    let judged = WrittenFault c.args.schema.now g.S.CheckedScalar.may_answer (printed_value g.S.ScalarValue.text g.S.ScalarValue.str_of) c.args.given.now.value.now (borrowed_shape c.args.given.now.expected) in
    ([], (None, subst judged (ap (option_map string_bytes) c.in-None.is) c.in_ok-validate_written_value.ensures.fault, refl), sym (append-nil (reported c.args.faults.now)))

pub returns-in_ok-push-in-Some : goal.returns-in_ok-push-in-Some
returns-in_ok-push-in-Some g c =
    let judged = WrittenFault c.args.schema.now g.S.CheckedScalar.may_answer (printed_value g.S.ScalarValue.text g.S.ScalarValue.str_of) c.args.given.now.value.now (borrowed_shape c.args.given.now.expected) in
    let reason = Some (string_bytes c.in-Some.reason) in (
      fault_at (coordinate_value c.args.given.now.coordinate) reason,
      (reason, subst judged (ap (option_map string_bytes) c.in-Some.is) c.in_ok-validate_written_value.ensures.fault, refl),
      ap (map default_fault) c.in_ok-push-in-Some.ensures.items ∙ map-append default_fault c.args.faults.now.items _,
    )
