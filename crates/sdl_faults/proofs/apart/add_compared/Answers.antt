use Rattle.std.proofs.Common.{◌++◌, ap, filter, map, refl, ◌∙◌}
use Rattle.std.proofs.lemmas.Result.{on_ok_weaker}
use Rattle.std.specs.List.{flat_map}
use Rattle.sdl_mending.specs.Touched.{has_type}
use Rattle.type_system.specs.All.{all_faults, directive_faults}
use Rattle.type_system_report.specs.Fault.{fault_value}
use Rattle.sdl_faults.specs.Apart.{is_apart}
use Rattle.sdl_faults.specs.Told.{told_fault, told_values}
use Rattle.sdl_faults.proofs.apart.add_compared.Goals as goal

pub returns : goal.returns
returns c =
    let mended = c.args.mended.now in
    let test = is_apart (has_type mended.touched) in
    let (directives, moved, sorted, is) = c.in_ok-faults.ensures in
    on_ok_weaker c.tell_all.result
    (λ h. record {
      more = map (told_fault mended.document.items) (filter test (all_faults mended.schema ++ flat_map directive_faults directives));
      told = record { directives = directives; are_directives = record { all = moved; sorted = sorted }; told_is = refl };
      all = h ∙ ap (λ z. told_values c.args.told.now.items ++ map (told_fault mended.document.items) z)
          (ap (map fault_value) c.as_slice-2.ensures.value ∙ c.in_ok-apart.ensures ∙ ap (λ z. filter test (map fault_value z)) c.as_slice.ensures.value ∙ ap (filter test) is);
    })
    c.tell_all.ensures
