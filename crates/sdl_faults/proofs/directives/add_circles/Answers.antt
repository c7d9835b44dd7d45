use Rattle.std.proofs.Common.{◌++◌, ap, map, refl, ◌∙◌}
use Rattle.sdl_faults.specs.Told.{told_directive_circle, told_values}
use Rattle.sdl_faults.proofs.directives.add_circles.Goals as goal

pub returns : goal.returns
returns c = record {
  more = map told_directive_circle c.in_ok-circles.circles.items;
  told = record { found = c.in_ok-circles.circles.items; are = c.in_ok-circles.ensures.all; none = c.in_ok-circles.ensures.none; told_is = refl };
  all = c.in_ok-tell_each.ensures ∙ ap (λ z. told_values c.args.told.now.items ++ map told_directive_circle z) c.as_slice.ensures.value;
}
