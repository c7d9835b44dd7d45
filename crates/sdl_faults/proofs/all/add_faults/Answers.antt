use Rattle.std.proofs.Common.{◌++◌, ap, map, refl, ◌∙◌}
use Rattle.std.specs.List.{flat_map}
use Rattle.type_system.specs.All.{all_faults, directive_faults}
use Rattle.type_system_report.specs.Fault.{fault_value}
use Rattle.sdl_faults.specs.Told.{told_fault, told_values}
use Rattle.sdl_faults.proofs.Tells.{mapped-twice}
use Rattle.sdl_faults.proofs.all.add_faults.Goals as goal

pub returns : goal.returns
returns c =
    let document = c.args.document.now in
    let schema = c.args.schema.now in
    let (directives, moved, sorted, is) = c.in_ok-faults.ensures in
    record {
      more = map (told_fault document) (all_faults schema ++ flat_map directive_faults directives);
      told = record { directives = directives; are_directives = record { all = moved; sorted = sorted }; told_is = refl };
      all = c.in_ok-tell_each.ensures ∙ ap (λ z. told_values c.args.told.now.items ++ z)
          (ap (map (λ f. told_fault document (fault_value f))) c.as_slice.ensures.value ∙ mapped-twice (told_fault document) fault_value c.in_ok-faults.faults.items ∙ ap (map (told_fault document)) is);
    }
