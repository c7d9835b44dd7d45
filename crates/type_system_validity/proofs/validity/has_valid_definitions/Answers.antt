use Rattle.std.proofs.Common.{sym, ap, ◌∙◌, map}
use Rattle.type_system_report.specs.Fault.{fault_value}
use Rattle.type_system_validity.proofs.Valid.{iff_definitions, mapped_none}
use Rattle.type_system_validity.proofs.validity.has_valid_definitions.Goals as goal

pub returns : goal.returns
returns g c =
    let (directives, moved, sorted, is) = c.in_ok-faults.ensures in
    let law = iff_definitions c.args.schema.now directives moved in
    let told = ap (map fault_value) c.as_slice.ensures.value ∙ is in
    let empty = mapped_none fault_value c.as_slice.result.now in
    (λ e. law.0 (sym told ∙ empty.0 (sym c.is_empty.ensures ∙ e)), λ h. c.is_empty.ensures ∙ empty.1 (told ∙ law.1 h))
