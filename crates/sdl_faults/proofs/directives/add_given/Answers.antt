use Rattle.std.proofs.Common.{◌++◌, ap, map, refl, ◌∙◌}
use Rattle.sdl_directive_values.specs.Faults.{reported, value_fault}
use Rattle.sdl_faults.specs.Told.{told_given, told_values}
use Rattle.sdl_faults.proofs.Tells.{mapped-twice}
use Rattle.sdl_faults.proofs.directives.add_given.Goals as goal

pub returns : goal.returns
returns c = record {
  more = map told_given (reported c.in_ok-faults.faults.items);
  told = record {
    found = c.in_ok-faults.faults.items;
    are = c.in_ok-faults.ensures.all;
    none = c.in_ok-faults.ensures.none;
    told_is = refl;
  };
  all = c.in_ok-tell_each.ensures ∙ ap (λ z. told_values c.args.told.now.items ++ z)
      (ap (map (λ f. told_given (value_fault f))) c.as_slice.ensures.value ∙ mapped-twice told_given value_fault c.in_ok-faults.faults.items);
}
