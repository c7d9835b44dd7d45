use Rattle.std.proofs.Common.{[], None, Some, map, ap, refl, sym, ◌∙◌, subst, string_bytes, option_map}
use Rattle.std.proofs.lemmas.List.{append-nil, map-append}
use Rattle.language_types.specs.Types.{borrowed_shape}
use Rattle.language_values.specs.ValuesPrinted.{printed_value}
use Rattle.literals.specs.Judged.{WrittenFault}
use Rattle.sdl_scalars.specs.Checks.{MayAnswer}
use Rattle.sdl_scalars.specs.SourceScalar.{source_str, source_text}
use Rattle.sdl_directive_values.specs.Faults.{fault_at, reported, value_fault}
use Rattle.sdl_directive_values.specs.Given.{given_value}
use Rattle.sdl_directive_values.proofs.all.report_value.Goals as goal

pub returns-in-None : goal.returns-in-None
returns-in-None c =
    let judged = WrittenFault c.args.schema.now MayAnswer (printed_value source_text source_str) c.args.given.now.value.now (borrowed_shape c.args.given.now.expected) in
    ([], (None, subst judged (ap (option_map string_bytes) c.in-None.is) c.in_ok-validate_written_value.ensures.fault, refl), sym (append-nil (reported c.args.faults.now.items)))

pub returns-in_ok-push-in-Some : goal.returns-in_ok-push-in-Some
returns-in_ok-push-in-Some c =
    let judged = WrittenFault c.args.schema.now MayAnswer (printed_value source_text source_str) c.args.given.now.value.now (borrowed_shape c.args.given.now.expected) in
    let reason = Some (string_bytes c.in-Some.reason) in (
      fault_at (given_value c.args.given.now) reason,
      (reason, subst judged (ap (option_map string_bytes) c.in-Some.is) c.in_ok-validate_written_value.ensures.fault, refl),
      ap (map value_fault) c.in_ok-push-in-Some.ensures.items ∙ map-append value_fault c.args.faults.now.items _,
    )
