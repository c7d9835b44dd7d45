use Rattle.std.proofs.Common.{◌++◌, ap, map, ◌∙◌}
use Rattle.std.proofs.lemmas.Result.{on_ok_weaker}
use Rattle.type_system_report.specs.Fault.{fault_value}
use Rattle.sdl_faults.specs.Told.{told_fault, told_values}
use Rattle.sdl_faults.proofs.Tells.{mapped-twice}
use Rattle.sdl_faults.proofs.apart.tell_all.Goals as goal

pub returns : goal.returns
returns c =
    let faults = c.args.faults.now in
    on_ok_weaker c.tell_each.result
    (λ h. h ∙ ap (λ z. told_values c.args.told.now.items ++ z)
    (ap (λ d. map (λ f. told_fault d (fault_value f)) faults) c.as_slice.ensures.value ∙ mapped-twice (told_fault c.args.mended.now.document.items) fault_value faults))
    c.tell_each.ensures
