use Rattle.std.proofs.Common.{sym, ap, ◌∙◌, map}
use Rattle.type_system_defaults.specs.Faults.{default_fault}
use Rattle.type_system_validity.proofs.Valid.{mapped_none}
use Rattle.type_system_validity.proofs.validity.has_conforming_defaults.Goals as goal

pub returns : goal.returns
returns g c =
    let law = c.in_ok-faults.ensures.none in
    let told = ap (map default_fault) c.as_slice.ensures.value in
    let empty = mapped_none default_fault c.as_slice.result.now in
    (λ e. law.0 (sym told ∙ empty.0 (sym c.is_empty.ensures ∙ e)), λ h. c.is_empty.ensures ∙ empty.1 (told ∙ law.1 h))
