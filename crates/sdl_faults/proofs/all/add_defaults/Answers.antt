use Rattle.std.proofs.Common.{◌++◌, ap, map, refl, ◌∙◌}
use Rattle.type_system_defaults.specs.Faults.{default_fault}
use Rattle.sdl_faults.specs.Told.{told_default, told_values}
use Rattle.sdl_faults.proofs.Tells.{mapped-twice}
use Rattle.sdl_faults.proofs.all.add_defaults.Goals as goal

pub returns : goal.returns
returns c =
    let document = c.args.document.now in
    let (directives, moved, sorted, found) = c.in_ok-faults.ensures.faults in
    record {
      more = map (told_default document) (map default_fault c.in_ok-faults.faults.items);
      told = record {
        directives = directives;
        are_directives = record { all = moved; sorted = sorted };
        faults = map default_fault c.in_ok-faults.faults.items;
        found = found;
        none = c.in_ok-faults.ensures.none;
        told_is = refl;
      };
      all = c.in_ok-tell_each.ensures ∙ ap (λ z. told_values c.args.told.now.items ++ z)
          (ap (map (λ f. told_default document (default_fault f))) c.as_slice.ensures.value ∙ mapped-twice (told_default document) default_fault c.in_ok-faults.faults.items);
    }
