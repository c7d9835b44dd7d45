use Rattle.std.proofs.Common.{◌+◌, length, ap, refl, slice_get, ◌∙◌}
use Rattle.type_system_circles.specs.Sound.{path_to}
use Rattle.type_system_circles.proofs.Steps.{sound_look}
use Rattle.type_system_circles.proofs.search.look.Goals as goal

pub returns-clause-at : goal.returns-clause-at
returns-clause-at c =
    let new = c.follow.new.search in
    let f = c.in_ok-end.ensures in
    let a = f.at in
    let at = ap (λ v. slice_get v.items c.args.link.from) f.settles.looked ∙ c.requires.next in
    record {
      sound = sound_look c.args.graph.now (path_to new.trail.items c.in_ok-end.end) new.trail.items new.colours.items new.looked.items new.circles.items (length new.order.items)
          c.args.link.from c.args.index (c.args.index + 1) c.args.link.edge refl at c.requires.edge f.settles.settled a.sound;
      root = a.root;
      walk = a.walk;
    }
