use Rattle.std.proofs.Common.{◌++◌, ap, map, refl, ◌∙◌}
use Rattle.sdl_own_faults.specs.All.{own_faults}
use Rattle.sdl_own_faults.specs.Fault.{placed_value}
use Rattle.sdl_faults.specs.Told.{told_own, told_values}
use Rattle.sdl_faults.proofs.Tells.{mapped-twice}
use Rattle.sdl_faults.proofs.all.add_own_faults.Goals as goal

pub returns : goal.returns
returns c = record {
  more = map told_own (own_faults c.args.document.now);
  told = refl;
  all = c.in_ok-tell_each.ensures ∙ ap (λ z. told_values c.args.told.now.items ++ z)
      (ap (map (λ f. told_own (placed_value f))) c.as_slice.ensures.value ∙ mapped-twice told_own placed_value c.in_ok-faults.faults.items ∙ ap (map told_own) c.in_ok-faults.ensures);
}
