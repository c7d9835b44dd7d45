use Rattle.std.proofs.Common.{◌++◌, ap, map, refl, ◌∙◌}
use Rattle.sdl_faults.specs.Told.{told_circle, told_values}
use Rattle.sdl_faults.proofs.all.add_circles.Goals as goal

pub returns : goal.returns
returns c =
    let document = c.args.document.now in
    record {
      more = map (told_circle document) c.in_ok-circles.circles.items;
      told = record { circles = c.in_ok-circles.circles.items; found = c.in_ok-circles.ensures; told_is = refl };
      all = c.in_ok-tell_each.ensures ∙ ap (λ z. told_values c.args.told.now.items ++ map (told_circle document) z) c.as_slice.ensures.value;
    }
