use Rattle.std.proofs.Common.{◌++◌, ap, map, refl, ◌∙◌}
use Rattle.sdl_directives.specs.Fault.{fault_value}
use Rattle.sdl_directives.specs.Judged.{document_faults}
use Rattle.sdl_faults.specs.Told.{told_use, told_values}
use Rattle.sdl_faults.proofs.Tells.{mapped-twice}
use Rattle.sdl_faults.proofs.directives.add_uses.Goals as goal

pub returns : goal.returns
returns c = record {
  more = map told_use (document_faults c.args.document.now c.args.standard.now);
  told = refl;
  all = c.in_ok-tell_each.ensures ∙ ap (λ z. told_values c.args.told.now.items ++ z)
      (ap (map (λ f. told_use (fault_value f))) c.as_slice.ensures.value ∙ mapped-twice told_use fault_value c.in_ok-faults.faults.items ∙ ap (map told_use) c.in_ok-faults.ensures.all);
}
